-- The first entry of a list that passes a test, and a loop that looks for it.
use mathlib.Core.Path.{◌≡◌, refl, sym, ◌∙◌}
use mathlib.Core.Bool.{Bool, true, false, cond}
use mathlib.Core.List.{List, [], ◌∷◌}
use Prim.Native.Nat.{ℕ, zero, suc, ◌+◌, ◌≤◌, ◌<◌}
use native.Mathlib.Numerals.{add-one}
use native.Mathlib.Omega.{arith}
use lib.ListN.{length, get_or, drop}
use Rattle.whole.proofs.Tests.{by-test}

-- its number, the list's own first being number i; past the last where none passes
abbrev pub first_with : {A : Type 0} → (A → Bool) → ℕ → List A → ℕ
first_with f i [] = i
first_with f i (x ∷ xs) = cond (f x) i (first_with f (i + 1) xs)

-- the entry itself, d where none passes
abbrev pub first_in : {A : Type 0} → (A → Bool) → A → List A → A
first_in f d [] = d
first_in f d (x ∷ xs) = cond (f x) x (first_in f d xs)

module _ {A : Type 0} (f : A → Bool) (d : A) where
  first-shift : (l : List A) (j : ℕ) → first_with f (j + 1) l ≡ first_with f j l + 1
  first-shift [] j = refl
  first-shift (x ∷ xs) j = by-test (f x) (λ p. rw p) (λ p. rw p (first-shift xs (j + 1)))

  -- it stands at its number
  pub first-in : (l : List A) → get_or l (first_with f 0 l) d ≡ first_in f d l
  first-in [] = refl
  first-in (x ∷ xs) = by-test (f x) (λ p. rw p) (λ p. rw (p, first-shift xs 0, add-one) (first-in xs))

  first-here : (l : List A) (j i : ℕ) → i < length l → f (get_or l i d) ≡ true → first_with f j (drop i l) ≡ j
  first-here [] j i h e = absurd (omega arith)
  first-here (x ∷ xs) j zero h e = rw e
  first-here (x ∷ xs) j (suc i) h e = first-here xs j i (omega arith) e

  first-later : (l : List A) (j i : ℕ) → i < length l → f (get_or l i d) ≡ false
      → first_with f j (drop i l) ≡ first_with f (j + 1) (drop (i + 1) l)
  first-later [] j i h e = absurd (omega arith)
  first-later (x ∷ xs) j zero h e = rw e
  first-later (x ∷ xs) j (suc i) h e =
      let n : suc i + 1 ≡ suc (i + 1) = omega arith in
      rw n (first-later xs j i (omega arith) e)

  first-none : (l : List A) (j i : ℕ) → length l ≤ i → first_with f j (drop i l) ≡ j
  first-none [] j zero h = refl
  first-none [] j (suc i) h = refl
  first-none (x ∷ xs) j zero h = absurd (omega arith)
  first-none (x ∷ xs) j (suc i) h = first-none xs j i (omega arith)

  -- it is no later than any entry that passes
  pub first-most : (l : List A) (j i : ℕ) → i < length l → f (get_or l i d) ≡ true → first_with f j l ≤ j + i
  first-most [] j i h e = absurd (omega arith)
  first-most (x ∷ xs) j zero h e = rw e (omega arith)
  first-most (x ∷ xs) j (suc i) h e =
      by-test (f x) (λ p. rw p (omega arith))
      (λ p. rw p (omega (arith, first-most xs (j + 1) i (omega arith) e)))

  -- ---- the loop: it stands at entry i, the first being n, and looks at those that are left

  module _ (l : List A) (n i : ℕ) where
    abbrev pub Left : Type 0
    Left = (i ≤ length l) × (n ≡ first_with f i (drop i l))

    pub left_here : Left → i < length l → f (get_or l i d) ≡ true → i ≡ n
    left_here o h e = sym (o.1 ∙ first-here l i i h e)

    pub left-later : Left → i < length l → f (get_or l i d) ≡ false
        → (i + 1 ≤ length l) × (n ≡ first_with f (i + 1) (drop (i + 1) l))
    left-later o h e = (omega arith, o.1 ∙ first-later l i i h e)

    pub left-none : Left → length l ≤ i → i ≡ n
    left-none o h = sym (o.1 ∙ first-none l i i h)
