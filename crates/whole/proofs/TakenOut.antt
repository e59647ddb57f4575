-- A list without its entry k: how long it is, where the others stand then, and which numbers they have.
use mathlib.Core.Path.{◌≡◌, sym, ap, ◌∙◌}
use mathlib.Core.List.{List, ◌∷◌, ◌++◌, map}
use Prim.Native.Nat.{ℕ, suc, ◌+◌, ◌-◌, ◌≤◌, ◌<◌}
use native.Mathlib.Omega.{arith}
use borrow.Author.Tests.{eqb-true, eqb-false, ltb-true, ltb-false, lt-ltb, le-ltb}
use lib.Dec.{eqb, ltb}
use lib.ListN.{length, get_or, take, drop, length-append, length-drop, get_or-append}
use lib.Seq.{length-take-le, get_or-append-add, get_or-take, get_or-drop}
use Rattle.whole.specs.Lists.{numbers, take_out, renumbered, Every}
use Rattle.whole.proofs.Tests.{by-test}
use Rattle.whole.proofs.Numbers.{numbers-split, map-numbers}
use Rattle.whole.proofs.Pieces.{every_append, every_first, every_rest, map-append}

pub every-take_out : {A : Type 0} (P : A → Type 0) (k : ℕ) (l : List A) → Every P l → Every P (take_out k l)
every-take_out P k l h =
    every_append P (take (k - 1) l) (drop k l) (every_first P (k - 1) l h) (every_rest P k l h)

-- ---- numbers, counted from 1

module _ (k : ℕ) where
  pub renumbered-before : (n : ℕ) → n ≤ k → renumbered k n ≡ n
  renumbered-before n h = rw (le-ltb k n h)

  pub renumbered-after : (n : ℕ) → k < n → renumbered k n ≡ n - 1
  renumbered-after n h = rw (lt-ltb k n h)

module _ (k n : ℕ) (low : 1 ≤ k) (high : k ≤ n) where
  pub numbers-around : numbers n 1 ≡ numbers (k - 1) 1 ++ (k ∷ numbers (n - k) (suc k))
  unfolding numbers
  numbers-around =
      let e : n ≡ (k - 1) + suc (n - k) = omega arith in
      let f : 1 + (k - 1) ≡ k = omega arith in
      ap (λ i. numbers i 1) e
      ∙ numbers-split (k - 1) (suc (n - k)) 1
      ∙ ap (λ i. numbers (k - 1) 1 ++ numbers (suc (n - k)) i) f

  -- without k the others have all numbers up to one less
  pub numbers-closed : numbers (n - 1) 1 ≡ map (renumbered k) (numbers (k - 1) 1 ++ numbers (n - k) (suc k))
  numbers-closed =
      let e : n - 1 ≡ (k - 1) + (n - k) = omega arith in
      let f : 1 + (k - 1) ≡ k = omega arith in
      let first = map-numbers (renumbered k) (k - 1) 1 1 (λ i h. renumbered-before k (1 + i) (omega arith)) in
      let rest =
      map-numbers (renumbered k) (n - k) (suc k) k
      (λ i h. renumbered-after k (suc k + i) (omega arith) ∙ omega arith) in
      ap (λ i. numbers i 1) e
      ∙ numbers-split (k - 1) (n - k) 1
      ∙ ap (λ i. numbers (k - 1) 1 ++ numbers (n - k) i) f
      ∙ sym (map-append (renumbered k) (numbers (k - 1) 1) (numbers (n - k) (suc k)) ∙ (λ j. first j ++ rest j))

-- ---- entries

module _ {A : Type 0} (k : ℕ) (l : List A) (low : 1 ≤ k) (high : k ≤ length l) where
  first-long : length (take (k - 1) l) ≡ k - 1
  first-long = length-take-le (k - 1) l (omega arith)

  pub take_out-length : length (take_out k l) ≡ length l - 1
  take_out-length =
      omega (arith, length-append (take (k - 1) l) (drop k l), first-long, length-drop k l)

  -- what has number n but k, counted from 1, is found at its new number
  pub take_out-at : (n : ℕ) (d : A) → 1 ≤ n → (n ≡ k → ⊥)
      → get_or (take_out k l) (renumbered k n - 1) d ≡ get_or l (n - 1) d
  take_out-at n d some other =
      by-test (ltb k n)
      (λ e.
      let h = ltb-true k n e in
      let i : renumbered k n - 1 ≡ length (take (k - 1) l) + (n - 1 - k) =
      omega (arith, renumbered-after k n h, first-long) in
      let j : k + (n - 1 - k) ≡ n - 1 = omega arith in
      ap (λ m. get_or (take_out k l) m d) i
      ∙ get_or-append-add (take (k - 1) l) (drop k l) (n - 1 - k) d
      ∙ get_or-drop k l (n - 1 - k) d
      ∙ ap (λ m. get_or l m d) j)
      (λ e.
      let h = ltb-false k n e in
      let i : renumbered k n - 1 ≡ n - 1 = omega (arith, renumbered-before k n h) in
      let inside : n - 1 < k - 1 = go h in
      ap (λ m. get_or (take_out k l) m d) i
      ∙ get_or-append (take (k - 1) l) (drop k l) d (n - 1) (omega (arith, first-long))
      ∙ get_or-take (k - 1) l (n - 1) d inside)
    where
      go : n ≤ k → n - 1 < k - 1
      go h =
          by-test (eqb n k) (λ e. absurd (other (eqb-true n k e)))
          (λ e. omega (arith, eqb-false n k e))
