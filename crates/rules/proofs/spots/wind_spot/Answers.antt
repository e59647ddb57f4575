-- `spots::wind_spot`: by the definition's own tests.
use mathlib.Core.Path.{ap}
use mathlib.Core.Bool.{not}
use lib.IntN.{pos}
use Rattle.whole.proofs.Size.{said, said₂}
use Rattle.building.specs.Places.{knows}
use Rattle.building.specs.Test.{beyond}
use Rattle.building.specs.Fault.{first_spot}
use Rattle.rules.proofs.Spotted.{spot-or}
use Rattle.rules.proofs.spots.wind_spot.Goals as goal

pub returns : goal.returns
unfolding first_spot
returns c =
    let w = c.args.w in
    let q = c.struct_told-1.given in
    let kind = c.struct_told-2-1.given.1.1.1.1.0.1 in
    spot-or (ap not (said₂ knows c.args.g.kind w.direction c.knows.ensures kind q.0.1))
    c.ranged-3.ensures
    (spot-or (said (beyond (pos 1) (pos 1000)) w.speed c.beyond.ensures q.1.0.1) c.ranged.ensures
    c.ranged-2.ensures c.first-speed.ensures)
    c.first.ensures
