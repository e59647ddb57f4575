-- What a double is, and a whole number to compare it with. `lib.Ieee` has IEEE 754: its `fin s m e` is the number m *
-- 2 ^ e, negative where s is true, and `eq` and `lt` are a machine's `==` and `<`.
use Rattle.std.specs.Prelude.{T, ℤ, pos, negsuc, Float, suc, true, false}
use Rattle.std.specs.Float.{fin, binary64}
use Rattle.std.specs.Float.Ieee.{fits}

-- a value that binary64 holds; one number is written in one way only
abbrev pub IsDouble : Float → Type 0
IsDouble x = T (fits binary64 x)

-- the number z itself, which no double need equal
abbrev pub number_itself : ℤ → Float
number_itself (pos n) = fin false n (pos 0)
number_itself (negsuc n) = fin true (suc n) (pos 0)

abbrev pub positive_zero : Float
positive_zero = fin false 0 (pos 0)
