-- `under::factor_of` meets its contract: without heights there is no profile, and the speed stays as it is.
use mathlib.Core.Path.{sym, ap, ◌∙◌}
use mir.Syntax.{w64}
use mir.ValLaws.{to_z-of_z}
use Rattle.building.specs.Year.{has_heights}
use Rattle.worst.specs.Speed.{factor_at}
use Rattle.worst.proofs.under.factor_of.Goals as goal

pub returns-then-not-has_heights : goal.returns-then-not-has_heights
unfolding factor_at
returns-then-not-has_heights c =
    let known = c.has_heights.ensures ∙ ap has_heights (to_z-of_z w64 _ c.ranges.year) in
    rw (sym known ∙ c.if-not-has_heights.true)
