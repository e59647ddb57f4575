-- `faults::outside`: each number is read back as it is, and asked in the line's order.
use lib.IntN.{pos}
use Rattle.building.specs.Test.{beyond}
use Rattle.building.specs.Roof.{last_kind}
use Rattle.whole.proofs.Size.{said}
use Rattle.building.proofs.Six.{each_same}
use Rattle.building.proofs.faults.outside.Goals as goal

pub returns : goal.returns
returns c =
    let g = c.args.g in
    let bounds = c.struct_told-6-1.given in
    each_same
    (said (beyond (pos 100) (pos 30000)) g.h c.beyond.ensures bounds.0.1)
    (said (beyond (pos 100) (pos 30000)) g.a c.beyond-2.ensures bounds.1.0.1)
    (said (beyond (pos 100) (pos 30000)) g.b c.beyond-3.ensures bounds.1.1.0.1)
    (said (beyond (pos 1000) (pos 1500)) g.density c.beyond-4.ensures bounds.1.1.1.0.1)
    (said (beyond (pos 0) (pos last_kind)) g.kind c.beyond-5.ensures bounds.1.1.1.1.0.1)
    (said (beyond (pos 0) (pos 30000)) g.x c.beyond-6.ensures bounds.1.1.1.1.1.0.1)
