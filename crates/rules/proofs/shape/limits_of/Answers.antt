-- `limits_of` meets its contract: of the faces, the year is read back as it is.
use mathlib.Core.Path.{◌∙◌}
use Rattle.whole.proofs.Size.{said}
use Rattle.building.specs.Year.{face_limit}
use Rattle.rules.proofs.shape.limits_of.Goals as goal

pub returns-in-F : goal.returns-in-F
returns-in-F c =
    let e = c.counted-in-F.ensures in
    rw c.in-F.is
    (e.0, e.1 ∙ said face_limit c.args.year c.face_limit.ensures c.ranges.year.sfits)
