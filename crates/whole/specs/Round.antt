-- Rounding a quotient to a whole number: to the nearest with a half away from zero, and down, towards minus infinity.
-- The divisor d is above 0.
use Rattle.std.specs.Prelude.{◌≡◌, ℕ, suc, ◌+◌, ◌-◌, ◌*◌, ◌/◌, ◌%◌, ◌≤◌, ℤ, pos, negsuc, neg_ℤ, nat_abs, ◌-ℤ◌, ◌*ℤ◌}

-- n / d to the nearest whole number, a half going up
unfoldable pub half_up : ℕ → ℕ → ℕ
half_up n d = (2 * n + d) / (2 * d)

-- z / d to the nearest whole number, a half going away from zero
unfoldable pub round_away : ℤ → ℕ → ℤ
round_away (pos n) d = pos (half_up n d)
round_away (negsuc n) d = neg_ℤ (pos (half_up (suc n) d))

-- what that is: r is z / d so rounded if it is off by no more than a half and, where by just a half, is not nearer to
-- zero than z / d
pub record Nearest (z : ℤ) (d : ℕ) (r : ℤ) : Type 0 where
  pub near : 2 * nat_abs (r *ℤ pos d -ℤ z) ≤ d
  pub away : 2 * nat_abs (r *ℤ pos d -ℤ z) ≡ d → nat_abs z ≤ nat_abs r * d

-- z / d rounded down, and what is left of z then: from 0 to d - 1
unfoldable pub round_down : ℤ → ℕ → ℤ
round_down (pos n) d = pos (n / d)
round_down (negsuc n) d = negsuc (n / d)

unfoldable pub left_over : ℤ → ℕ → ℕ
left_over (pos n) d = n % d
left_over (negsuc n) d = d - 1 - n % d

-- z / d lies halfway between two whole numbers: what is left of z is just a half of d
abbrev pub Half : ℤ → ℕ → Type 0
Half z d = 2 * left_over z d ≡ d
