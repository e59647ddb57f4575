-- `speeds::factor_at` meets its contract: before line i the walk stands above line i - 1.
use mathlib.Core.Path.{◌≡◌}
use Rattle.worst.specs.Speed.{factor_at}
use Rattle.worst.specs.Factors.{steps_of, StepSmall}
use Rattle.worst.proofs.AtHeight.{walked}
use Rattle.worst.proofs.speeds.factor_at.Given as goal

abbrev pub invariant-loop-i : goal.invariant-loop-i
invariant-loop-i l =
    StepSmall l.lower
    × (factor_at (steps_of l.profile) l.height ≡ walked l.profile.count l.profile.entry l.height l.i l.lower)
