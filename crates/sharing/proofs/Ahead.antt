-- The faces of a list are in a strict order: the larger remainder first and, where equal, the earlier face.
use mathlib.Core.Path.{◌≡◌, refl, sym, ap, ◌∙◌}
use mathlib.Core.Bool.{true, false, cond}
use mathlib.Core.Logic.{◌⊎◌, inl, inr, ⊎_elim}
use mathlib.Core.List.{List}
use Prim.Native.Nat.{ℕ, ◌<◌}
use native.Mathlib.Omega.{arith}
use borrow.Author.Tests.{eqb-true, eqb-false, ltb-true, ltb-false, eq-eqb, ne_eqb, lt-ltb, le-ltb}
use lib.Dec.{eqb, ltb}
use lib.IntN.{ℤ}
use Rattle.whole.specs.Newton.{remainder}
use Rattle.whole.proofs.Tests.{by-test}
use Rattle.sharing.specs.Column.{own_force, comes_first, is_ahead}
use Rattle.sharing.proofs.Ranks.{Strict}

-- the test, and what it decides
module _ (s j r i : ℕ) where
  pub by-larger : r < s → comes_first s j r i ≡ true
  by-larger h = rw (ne_eqb s r (λ e. omega arith)) (lt-ltb r s h)

  pub by-earlier : s ≡ r → j < i → comes_first s j r i ≡ true
  by-earlier e h = rw (eq-eqb s r e) (lt-ltb j i h)

  pub first_by : comes_first s j r i ≡ true → (r < s) ⊎ ((s ≡ r) × (j < i))
  first_by h =
      by-test (eqb s r)
      (λ e. inr (eqb-true s r e, ltb-true j i (sym (ap (λ t. cond t (ltb j i) (ltb r s)) e) ∙ h)))
      (λ e. inl (ltb-true r s (sym (ap (λ t. cond t (ltb j i) (ltb r s)) e) ∙ h)))

module _ (fs : List ℤ) where
  abbrev own : ℕ → ℕ
  own i = remainder (own_force fs i)

  not_itself : (i : ℕ) → is_ahead fs i i ≡ false
  not_itself i = rw (eq-eqb (own i) (own i) refl) (le-ltb i i (omega arith))

  ahead-chain : (i j k : ℕ) → is_ahead fs i j ≡ true → is_ahead fs j k ≡ true → is_ahead fs i k ≡ true
  ahead-chain i j k e f =
      ⊎_elim
      (λ x.
      ⊎_elim (λ y. by-larger (own i) i (own k) k (omega arith)) (λ y. by-larger (own i) i (own k) k (omega arith))
      (first_by (own j) j (own k) k f))
      (λ x.
      ⊎_elim (λ y. by-larger (own i) i (own k) k (omega arith))
      (λ y. by-earlier (own i) i (own k) k (omega arith) (omega arith)) (first_by (own j) j (own k) k f))
      (first_by (own i) i (own j) j e)

  -- of two faces one is ahead
  one-ahead : (i j : ℕ) → i < j → (is_ahead fs i j ≡ true) ⊎ (is_ahead fs j i ≡ true)
  one-ahead i j h =
      by-test (ltb (own i) (own j)) (λ e. inr (by-larger (own j) j (own i) i (ltb-true (own i) (own j) e)))
      (λ e.
      by-test (eqb (own i) (own j)) (λ d. inl (by-earlier (own i) i (own j) j (eqb-true (own i) (own j) d) h))
      (λ d.
      inl
      (by-larger (own i) i (own j) j
      (omega (arith, ltb-false (own i) (own j) e, eqb-false (own i) (own j) d)))))

  pub strict : Strict (is_ahead fs)
  strict = record { never = not_itself; chain = λ {i} {j} {k} e f. ahead-chain i j k e f; either = one-ahead }
