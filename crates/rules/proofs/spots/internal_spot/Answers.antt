-- `spots::internal_spot`: by the definition's own test.
use lib.IntN.{pos, neg_ℤ}
use Rattle.whole.proofs.Size.{said}
use Rattle.building.specs.Test.{beyond}
use Rattle.building.specs.Fault.{first_spot}
use Rattle.rules.proofs.Spotted.{spot-or}
use Rattle.rules.proofs.spots.internal_spot.Goals as goal

pub returns : goal.returns
unfolding first_spot
returns c =
    spot-or (said (beyond (neg_ℤ (pos 100)) (pos 100)) c.args.i c.beyond.ensures c.ranges.i.sfits)
    c.ranged.ensures c.ranged-2.ensures c.first.ensures
