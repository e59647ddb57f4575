-- Of one or two coefficients the one of a number, from 1.
use mathlib.Core.Path.{◌≡◌, refl}
use mathlib.Core.List.{[], ◌∷◌}
use Prim.Native.Nat.{ℕ, zero, suc, ◌≤◌}
use native.Mathlib.Omega.{arith}
use lib.IntN.{ℤ, pos}
use lib.ListN.{get_or}

pub past_two : (v u : ℤ) (n : ℕ) → 2 ≤ n → pos 0 ≡ get_or (v ∷ u ∷ []) n (pos 0)
past_two v u zero h = absurd (omega arith)
past_two v u (suc zero) h = absurd (omega arith)
past_two v u (suc (suc n)) h = refl

pub one-alone : (v : ℤ) (n : ℕ) → get_or (v ∷ pos 0 ∷ []) n (pos 0) ≡ get_or (v ∷ []) n (pos 0)
one-alone v zero = refl
one-alone v (suc zero) = refl
one-alone v (suc (suc n)) = refl
