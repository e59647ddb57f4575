-- What stands ahead of a place of a text, as the code looks for it.
use Prim.Native.Nat.{ℕ, ◌+◌, ◌≤◌, ◌<◌}
use mathlib.Core.Path.{◌≡◌, refl, sym, ap, ◌∙◌}
use mathlib.Core.Bool.{Bool, true, false, true≢false}
use mathlib.Core.List.{List, [], ◌∷◌}
use native.Mathlib.Numerals.{add-one}
use lib.Dec.{eqb}
use lib.ListN.{length, get_or, drop, drop_of_length-le}
use lib.Seq.{drop-cons}
use borrow.Author.Tests.{eq-eqb, ne_eqb, eqb-true, eqb-false}
use Rattle.whole.proofs.Tests.{by-test, or-false}
use Rattle.mend.specs.Mended.{spaces_on, digits_on}
use Rattle.mend.specs.OneWalk.{clean, runs_on, ends_run, in_run}

module _ (s : List ℕ) (i : ℕ) where
  pub clean_end : length s ≤ i → clean (drop i s) ≡ []
  unfolding clean
  clean_end h = rw (drop_of_length-le s h)

  module _ (h : i < length s) where
    pub clean-return : get_or s i 0 ≡ 13 → clean (drop i s) ≡ clean (drop (i + 1) s)
    unfolding clean
    clean-return e = rw (add-one, drop-cons s i 0) (simp (eq-eqb _ _ e))

    pub clean-other : (get_or s i 0 ≡ 13 → ⊥) → clean (drop i s) ≡ get_or s i 0 ∷ clean (drop (i + 1) s)
    unfolding clean
    clean-other e = rw (add-one, drop-cons s i 0) (simp (ne_eqb _ _ e))

-- ---- a run of digits or spaces

run_none : (d : Bool) → runs_on d [] ≡ true
unfolding digits_on spaces_on
run_none true = refl
run_none false = refl

run-stop : (d : Bool) (b : ℕ) (r : List ℕ) → ends_run d b ≡ true → runs_on d (b ∷ r) ≡ true
unfolding digits_on spaces_on
run-stop true b r e = rw e
run-stop false b r e = rw e

run-go : (d : Bool) (b : ℕ) (r : List ℕ) → ends_run d b ≡ false → (eqb b 13 ≡ false) → in_run d b ≡ true
    → runs_on d (b ∷ r) ≡ runs_on d r
unfolding digits_on spaces_on
run-go true b r e n p = rw e (rw (rw n at p))
run-go false b r e n p = rw e (rw (rw n at p))

run-fail : (d : Bool) (b : ℕ) (r : List ℕ) → ends_run d b ≡ false → in_run d b ≡ false → runs_on d (b ∷ r) ≡ false
unfolding digits_on spaces_on
run-fail true b r e p = rw e (rw (or-false (eqb b 13) _ p).1)
run-fail false b r e p = rw e (rw (or-false (eqb b 13) _ p).1)

-- a return ends none
ends_return : (d : Bool) (b : ℕ) → ends_run d b ≡ true → b ≡ 13 → ⊥
ends_return true b e z = true≢false (sym (rw z at e))
ends_return false b e z = true≢false (sym (rw z at e))

module _ (d : Bool) (s : List ℕ) (i : ℕ) where
  pub only_end : length s ≤ i → runs_on d (clean (drop i s)) ≡ true
  only_end h = rw (clean_end s i h) (run_none d)

  module _ (h : i < length s) where
    pub only-stop : ends_run d (get_or s i 0) ≡ true → runs_on d (clean (drop i s)) ≡ true
    only-stop e = rw (clean-other s i h (ends_return d _ e)) (run-stop d _ _ e)

    pub only-fail : ends_run d (get_or s i 0) ≡ false → in_run d (get_or s i 0) ≡ false
        → runs_on d (clean (drop i s)) ≡ false
    only-fail e p = rw (clean-other s i h (eqb-false _ _ (or-false (eqb (get_or s i 0) 13) _ p).0)) (run-fail d _ _ e p)

    pub only-on : ends_run d (get_or s i 0) ≡ false → in_run d (get_or s i 0) ≡ true
        → runs_on d (clean (drop i s)) ≡ runs_on d (clean (drop (i + 1) s))
    only-on e p =
        by-test (eqb (get_or s i 0) 13) (λ t. ap (runs_on d) (clean-return s i h (eqb-true _ _ t)))
        (λ t. ap (runs_on d) (clean-other s i h (eqb-false _ _ t)) ∙ run-go d _ _ e t p)
