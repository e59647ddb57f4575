-- Worked columns. 1 N is 20,000,000,000 units.
use mathlib.Core.Path.{◌≡◌, refl}
use mathlib.Core.List.{[], ◌∷◌}
use lib.IntN.{pos, negsuc, neg_ℤ}
use Rattle.whole.specs.Round.{round_down, left_over}
use Rattle.whole.specs.Lists.{numbers, how_many}
use Rattle.sharing.specs.Column.{column, share_of, ahead, missing, added_up}

-- 0.5 N three times: one newton is missing, and the first of the equal remainders gets it
halves : column (pos 10_000_000_000 ∷ pos 10_000_000_000 ∷ pos 10_000_000_000 ∷ []) ≡ pos 1 ∷ pos 0 ∷ pos 0 ∷ []
unfolding column share_of ahead missing added_up numbers how_many round_down left_over
halves = refl

-- minus one unit, 1.25 N, 1.75 N: rounded down -1, 1, 1, and the total 2, so one is missing, and the largest remainder
-- is the first's
mixed : column (negsuc 0 ∷ pos 25_000_000_000 ∷ pos 35_000_000_000 ∷ []) ≡ pos 0 ∷ pos 1 ∷ pos 1 ∷ []
unfolding column share_of ahead missing added_up numbers how_many round_down left_over
mixed = refl

-- a whole number of newtons gets none
whole-first : column (pos 40_000_000_000 ∷ pos 1 ∷ pos 19_999_999_999 ∷ []) ≡ pos 2 ∷ pos 0 ∷ pos 1 ∷ []
unfolding column share_of ahead missing added_up numbers how_many round_down left_over
whole-first = refl

-- nor does one below zero: -2 N stays, and -0.75 N, which is -1 and 0.25, comes after 1.8 N
whole_below : column (neg_ℤ (pos 40_000_000_000) ∷ neg_ℤ (pos 15_000_000_000) ∷ pos 36_000_000_000 ∷ [])
    ≡ neg_ℤ (pos 2) ∷ neg_ℤ (pos 1) ∷ pos 2 ∷ []
unfolding column share_of ahead missing added_up numbers how_many round_down left_over
whole_below = refl

-- four remainders of 0.75 N: three newtons are missing, and the last face goes without
equal : column (pos 15_000_000_000 ∷ pos 35_000_000_000 ∷ neg_ℤ (pos 5_000_000_000) ∷ pos 15_000_000_000 ∷ [])
    ≡ pos 1 ∷ pos 2 ∷ pos 0 ∷ pos 0 ∷ []
unfolding column share_of ahead missing added_up numbers how_many round_down left_over
equal = refl

no-faces : column [] ≡ []
unfolding column numbers
no-faces = refl
