-- `faults::building_fault`: the year is read back as it is.
use lib.IntN.{ℤ}
use Rattle.whole.proofs.Size.{said}
use Rattle.building.specs.Fault.{first}
use Rattle.building.specs.Building.{faults, building_fault}
use Rattle.rules.proofs.faults.building_fault.Goals as goal

pub returns : goal.returns
unfolding building_fault
returns c =
    let a = c.args in
    said (λ (y : ℤ). first (faults y a.building)) a.b.year c.building_fault.ensures
    c.struct_told-1.given.0.1
