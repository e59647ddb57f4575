-- `cells::every_wind` meets its contract: the best of the cases of the winds so far is kept, and of all winds that is
-- the worst of all cases.
use Prim.Native.Nat.{ℕ, ◌-◌}
use Rattle.whole.specs.Lists.{numbers}
use Rattle.job.specs.declared.Job.{Job}
use Rattle.job.specs.Carried.{carried}
use Rattle.worst.specs.declared.Axis.{Axis}
use Rattle.worst.specs.declared.Side.{Side}
use Rattle.worst.specs.Best.{Best}
use Rattle.worst.specs.Cases.{Case}
use Rattle.worst.specs.Quick.{over}
use Rattle.worst.specs.Worst.{shown_in}
use Rattle.plain.specs.Walked.{Keeps, wind_walked}
use Rattle.plain.proofs.cells.every_wind.Given as goal

-- the best of the first n winds
abbrev pub first : Axis → Side → Job → ℕ → Best (Case ℕ ℕ ℕ)
first axis s j n = over s (wind_walked axis s (carried j)) (numbers n 1)

abbrev pub invariant-loop-w : goal.invariant-loop-w
invariant-loop-w l =
    (axis : Axis) (s : Side) → Keeps l.job.faces.count (shown_in l.six axis s) (first axis s l.job (l.w - 1))
