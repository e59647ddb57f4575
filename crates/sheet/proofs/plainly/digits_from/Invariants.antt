-- `digits_from` meets its contract: the digits passed are those of a number, which has at most seven.
use Prim.Native.Nat.{◌-◌, ◌^◌, ◌<◌}
use mathlib.Core.Path.{◌≡◌}
use mathlib.Core.List.{◌++◌}
use lib.ListN.{length, drop}
use Rattle.whole.specs.Digits.{digits}
use Rattle.sheet.proofs.plainly.digits_from.Given as goal

abbrev pub invariant-loop-n : goal.invariant-loop-n
invariant-loop-n l =
    (l.i < length l.s) × (0 < l.n) × (l.n < 10 ^ 7) × (digits l.v ++ drop l.from l.s ≡ digits l.n ++ drop l.i l.s)

abbrev pub decreases-loop-n : goal.decreases-loop-n
decreases-loop-n l = 10000000 - l.n
