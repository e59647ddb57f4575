-- `cells::every_internal` meets its contract: the best of the cells of the internal coefficients so far is kept.
use Prim.Native.Nat.{ℕ, ◌-◌}
use Rattle.whole.specs.Lists.{numbers}
use Rattle.job.specs.declared.Job.{Job}
use Rattle.job.specs.Carried.{carried}
use Rattle.worst.specs.declared.Axis.{Axis}
use Rattle.worst.specs.declared.Side.{Side}
use Rattle.worst.specs.Best.{Best, better}
use Rattle.worst.specs.Cases.{Case}
use Rattle.worst.specs.Quick.{over}
use Rattle.worst.specs.Forces.{loads}
use Rattle.worst.specs.Worst.{given, shown_in}
use Rattle.plain.specs.Walked.{Keeps, cell_walked}
use Rattle.plain.proofs.cells.every_internal.Given as goal

-- the best of the first n internal coefficients under a wind
abbrev pub first : Axis → Side → Job → ℕ → ℕ → Best (Case ℕ ℕ ℕ)
first axis s j w n = over s (cell_walked s (loads axis (given (carried j))) w) (numbers n 1)

abbrev pub invariant-loop-i : goal.invariant-loop-i
invariant-loop-i l =
    (axis : Axis) (s : Side) (b : Best (Case ℕ ℕ ℕ)) → Keeps l.faces (shown_in l.initial.all axis s) b
    → Keeps l.faces (shown_in l.all axis s) (better s b (first axis s l.job l.wind (l.i - 1)))
