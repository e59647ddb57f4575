-- Numbers at the edges, worked out by the definitions.
use mathlib.Core.Path.{◌≡◌, refl}
use lib.IntN.{pos, negsuc}
use Rattle.whole.specs.Digits.{decimal}
use Rattle.whole.proofs.Quoted.{bytes}

-- 0, and the least number that 64 bits hold
zero-written : decimal (pos 0) ≡ bytes "0"
unfolding decimal
zero-written = refl

least-written : decimal (negsuc 9223372036854775807) ≡ bytes "-9223372036854775808"
unfolding decimal
least-written = refl
