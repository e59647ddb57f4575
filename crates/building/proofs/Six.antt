-- Six tests put together, those of a line's numbers.
use mathlib.Core.Path.{◌≡◌, refl}
use mathlib.Core.Bool.{Bool, true, false, cond, ◌||◌}
use mathlib.Core.List.{[], ◌∷◌}
use Prim.Native.Nat.{ℕ, ◌+◌}
use Rattle.std.specs.Prelude.{Option, Some, None}
use Rattle.std.specs.List.{position_from}

abbrev pub any_of : Bool → Bool → Bool → Bool → Bool → Bool → Bool
any_of a b c d e f = a || (b || (c || (d || (e || (f || false)))))

-- each test said otherwise
pub any_same : {a b c d e f a' b' c' d' e' f' r : Bool} → r ≡ any_of a b c d e f
    → a ≡ a' → b ≡ b' → c ≡ c' → d ≡ d' → e ≡ e' → f ≡ f' → r ≡ any_of a' b' c' d' e' f'
any_same s t u v w x y = cc

pub each_same : {a b c d e f a' b' c' d' e' f' : Bool}
    → a ≡ a' → b ≡ b' → c ≡ c' → d ≡ d' → e ≡ e' → f ≡ f'
    → a ∷ b ∷ c ∷ d ∷ e ∷ f ∷ [] ≡ a' ∷ b' ∷ c' ∷ d' ∷ e' ∷ f' ∷ []
each_same t u v w x y = cc

-- which of them is the first, from 1; 0 where there is none
abbrev pub numbered : Option ℕ → ℕ
numbered (Some i) = i + 1
numbered None = 0

pub first_of_six : (a b c d e f : Bool)
    → numbered (position_from (λ t. t) 0 (a ∷ b ∷ c ∷ d ∷ e ∷ f ∷ []))
    ≡ cond a 1 (cond b 2 (cond c 3 (cond d 4 (cond e 5 (cond f 6 0)))))
first_of_six true b c d e f = refl
first_of_six false true c d e f = refl
first_of_six false false true d e f = refl
first_of_six false false false true e f = refl
first_of_six false false false false true f = refl
first_of_six false false false false false true = refl
first_of_six false false false false false false = refl
