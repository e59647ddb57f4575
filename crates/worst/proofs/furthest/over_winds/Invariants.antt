-- `furthest::over_winds` meets its contract: after w winds each top is the best cell of the first w.
use Rattle.std.proofs.Common.{◌≡◌}
use Rattle.worst.specs.declared.Axis.{Axis}
use Rattle.worst.specs.declared.Side.{Side}
use Rattle.worst.specs.Engine.{top_of, top_at, best_up_to}
use Rattle.worst.specs.Proper.{ProperEnds}
use Rattle.worst.proofs.furthest.over_winds.Given as goal

abbrev pub invariant-loop-w : goal.invariant-loop-w
invariant-loop-w l =
    ProperEnds l.ends
    × ((axis : Axis) (s : Side) → top_of (top_at axis s l.ends) ≡ best_up_to axis s l.stored l.internals l.w)
