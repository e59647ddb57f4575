-- `spots::area_spot`: by the definition's own test.
use mathlib.Core.Path.{refl}
use lib.IntN.{pos, neg_ℤ}
use Rattle.whole.proofs.Size.{said}
use Rattle.building.specs.Test.{beyond}
use Rattle.rules.proofs.Spotted.{spot-or}
use Rattle.rules.proofs.spots.area_spot.Goals as goal

pub returns : goal.returns
returns c =
    spot-or (said (beyond (neg_ℤ (pos 100000)) (pos 100000)) c.args.z c.beyond.ensures c.ranges.z.sfits)
    c.ranged.ensures refl c.first.ensures
