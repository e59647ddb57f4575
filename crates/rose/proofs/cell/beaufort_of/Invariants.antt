-- `beaufort_of` meets its contract: the limits passed are those that the speed is exceeded.
use Prim.Native.Nat.{◌+◌}
use mathlib.Core.Path.{◌≡◌}
use lib.ListN.{drop}
use Rattle.rose.specs.Observation.{top_speeds, exceeded, beaufort}
use Rattle.rose.proofs.cell.beaufort_of.Given as goal

abbrev pub invariant-loop-i : goal.invariant-loop-i
invariant-loop-i l = beaufort l.speed ≡ l.i + exceeded l.speed (drop l.i top_speeds)
