-- `zones::no_zones`: zeros throughout.
use Rattle.book.proofs.zones.no_zones.Goals as goal

pub returns : goal.returns
returns c =
    let e = c.alone-zero.ensures in
    λ j. record { first = e j; second = e j; third = e j; fourth = e j }
