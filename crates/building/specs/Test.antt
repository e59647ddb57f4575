-- Tests of one number, and the fault where a test fails.
use Rattle.std.specs.Prelude.{Bool, true, false, not, ◌&&◌, ◌||◌, List, [], ◌∷◌, ℕ, ℤ, pos, negsuc, nat_abs, ltb, leb}
use Rattle.std.specs.Prelude.{eqb}
use Rattle.std.specs.Int.Signed.{lt_z}

-- n from `least` to `greatest`, both included
abbrev pub among : ℕ → ℕ → ℕ → Bool
among least greatest n = leb least n && leb n greatest

-- a signed number is n
abbrev pub is : ℤ → ℤ → Bool
is (pos n) (pos k) = eqb k n
is (pos n) (negsuc k) = false
is (negsuc n) (pos k) = false
is (negsuc n) (negsuc k) = eqb k n

-- a signed number is one of these
abbrev pub one_of : List ℤ → ℤ → Bool
one_of [] z = false
one_of (n ∷ ns) z = is n z || one_of ns z

-- a signed number is below the least of a range, or above its greatest; or it is neither
unfoldable pub beyond : ℤ → ℤ → ℤ → Bool
beyond least greatest z = lt_z z least || lt_z greatest z

abbrev pub within : ℤ → ℤ → ℤ → Bool
within least greatest z = not (beyond least greatest z)

-- more than 7 digits, which no sheet carries
unfoldable pub too_long : ℤ → Bool
too_long z = ltb 9999999 (nat_abs z)

-- fault n unless the test holds
abbrev pub unless : ℕ → Bool → ℕ
unless n true = 0
unless n false = n
