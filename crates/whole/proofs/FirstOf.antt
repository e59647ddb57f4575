-- The first so many of an array, gone through one by one.
use mathlib.Core.Path.{◌≡◌, refl, sym, ap, ◌∙◌}
use mathlib.Core.List.{List, [], ◌∷◌, ◌++◌}
use Prim.Native.Nat.{ℕ, zero, suc, ◌+◌}
use native.Mathlib.Numerals.{add-one}
use lib.ListN.{get_or}
use Rattle.whole.specs.Lists.{first_of}

-- one more
pub first_of-next : {X : Type 0} (d : X) (l : List X) (i : ℕ)
    → first_of d i l ++ (get_or l i d ∷ []) ≡ first_of d (i + 1) l
unfolding first_of
first_of-next {X} d l i = go i l ∙ ap (λ n. first_of d n l) (sym (add-one i))
  where
    go : (i : ℕ) (l : List X) → first_of d i l ++ (get_or l i d ∷ []) ≡ first_of d (suc i) l
    go zero [] = refl
    go zero (x ∷ l) = refl
    go (suc i) [] = ap (λ k. d ∷ k) (go i [])
    go (suc i) (x ∷ l) = ap (λ k. x ∷ k) (go i l)
