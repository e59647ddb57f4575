-- Every byte received has its fate, in order; and only returns, spaces, pluses and zeros go, each with its kind.
use Prim.Native.Nat.{ℕ}
use mathlib.Core.Path.{◌≡◌, refl, ap, ◌∙◌}
use mathlib.Core.Bool.{true}
use mathlib.Core.List.{List, [], ◌∷◌, map}
use lib.Dec.{eqb}
use borrow.Author.Tests.{eqb-true}
use Rattle.whole.specs.Lists.{Every}
use Rattle.whole.proofs.Tests.{by-test, and-true}
use Rattle.mend.specs.Mended.{Fate, stays, goes, left, Slip, pass}
use Rattle.mend.specs.Mended.{stray_return, needless_space, needless_plus, needless_zero, fates}
use Rattle.mend.specs.Told.{StandsHere, return, space, plus, zero}

-- the byte that a fate is of
unfoldable pub received : Fate → ℕ
received (stays b) = b
received (goes kind b) = b

pass-received : (k : ℕ) (slip : Slip) (before : List ℕ) (fs : List Fate)
    → map received (pass k slip before fs) ≡ map received fs
unfolding pass received
pass-received k slip before [] = refl
pass-received k slip before (goes j b ∷ fs) = ap (λ (l : List ℕ). b ∷ l) (pass-received k slip before fs)
pass-received k slip before (stays b ∷ fs) =
    by-test (slip before b (left fs)) (λ t. rw t (ap (λ (l : List ℕ). b ∷ l) (pass-received k slip (b ∷ before) fs)))
    (λ t. rw t (ap (λ (l : List ℕ). b ∷ l) (pass-received k slip (b ∷ before) fs)))

stays-received : (s : List ℕ) → map received (map stays s) ≡ s
unfolding received
stays-received [] = refl
stays-received (b ∷ s) = ap (λ (l : List ℕ). b ∷ l) (stays-received s)

-- the fates are those of the bytes received, each once and in their order
pub fates-received : (s : List ℕ) → map received (fates s) ≡ s
unfolding fates
fates-received s =
    pass-received 4 needless_zero [] _ ∙ pass-received 3 needless_plus [] _ ∙ pass-received 2 needless_space [] _
    ∙ pass-received 1 stray_return [] _ ∙ stays-received s

-- a byte that goes is one that its kind takes out
unfoldable pub Fair : Fate → Type 0
Fair (stays b) = Unit
Fair (goes kind b) = (behind : List ℕ) → StandsHere kind (b ∷ behind)

pass-fair : (k c : ℕ) (slip : Slip) → ((behind : List ℕ) → StandsHere k (c ∷ behind))
    → ((before : List ℕ) (b : ℕ) (s : List ℕ) → slip before b s ≡ true → eqb b c ≡ true)
    → (before : List ℕ) (fs : List Fate) → Every Fair fs → Every Fair (pass k slip before fs)
unfolding pass Fair
pass-fair k c slip kc only before [] a = tt
pass-fair k c slip kc only before (goes j b ∷ fs) a = (a.0, pass-fair k c slip kc only before fs a.1)
pass-fair k c slip kc only before (stays b ∷ fs) a =
    by-test (slip before b (left fs))
    (λ t. rw t (rw (eqb-true b c (only before b (left fs) t)) kc, pass-fair k c slip kc only (b ∷ before) fs a.1))
    (λ t. rw t (tt, pass-fair k c slip kc only (b ∷ before) fs a.1))

stays-fair : (s : List ℕ) → Every Fair (map stays s)
unfolding Fair
stays-fair [] = tt
stays-fair (b ∷ s) = (tt, stays-fair s)

-- and fair
pub fates-fair : (s : List ℕ) → Every Fair (fates s)
unfolding fates
fates-fair s =
    pass-fair 4 48 needless_zero zero (λ c b s t. (and-true (eqb b 48) _ t).0) [] _
    (pass-fair 3 43 needless_plus plus (λ c b s t. (and-true (eqb b 43) _ t).0) [] _
    (pass-fair 2 32 needless_space space (λ c b s t. (and-true (eqb b 32) _ t).0) [] _
    (pass-fair 1 13 stray_return return (λ c b s t. t) [] _ (stays-fair s))))
