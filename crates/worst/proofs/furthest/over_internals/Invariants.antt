-- `furthest::over_internals` meets its contract: after i of them each top is the best of what stood before and of the
-- first i.
use Rattle.std.proofs.Common.{◌≡◌}
use Rattle.worst.specs.declared.Axis.{Axis}
use Rattle.worst.specs.declared.Side.{Side}
use Rattle.worst.specs.Best.{better}
use Rattle.worst.specs.Engine.{top_of, top_at, four_best}
use Rattle.worst.specs.Proper.{ProperEnds}
use Rattle.worst.proofs.furthest.over_internals.Given as goal

abbrev pub invariant-loop-i : goal.invariant-loop-i
invariant-loop-i l =
    ProperEnds l.best
    × ((axis : Axis) (s : Side) → top_of (top_at axis s l.best)
    ≡ better s (top_of (top_at axis s l.initial.best)) (four_best axis s l.fn.four.cell l.i l.wind))
