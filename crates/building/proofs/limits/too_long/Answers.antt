-- `limits::too_long`: by the size of the number.
use mathlib.Core.Path.{ap}
use lib.Dec.{ltb}
use lib.IntN.{nat_abs}
use Rattle.whole.proofs.Size.{said}
use Rattle.building.specs.Test.{too_long}
use Rattle.building.proofs.limits.too_long.Goals as goal

pub returns : goal.returns
unfolding too_long
returns c =
    ap (ltb 9999999) (said nat_abs c.args.z c.magnitude.ensures c.ranges.z.sfits)
