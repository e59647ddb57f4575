-- `spots::year_spot`: by the definition's own test.
use lib.IntN.{pos}
use Rattle.whole.proofs.Size.{said}
use Rattle.building.specs.Test.{beyond}
use Rattle.building.specs.Year.{last_year}
use Rattle.building.specs.Fault.{first_spot}
use Rattle.rules.proofs.Spotted.{spot-or}
use Rattle.rules.proofs.spots.year_spot.Goals as goal

pub returns : goal.returns
unfolding first_spot
returns c =
    spot-or (said (beyond (pos 2) (pos last_year)) c.args.year c.beyond.ensures c.ranges.year.sfits)
    c.ranged.ensures c.ranged-2.ensures c.first.ensures
