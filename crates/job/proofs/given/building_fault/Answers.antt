-- `given::building_fault`: the year is read back as it is.
use mathlib.Core.Path.{◌∙◌}
use lib.IntN.{ℤ}
use Rattle.whole.proofs.Size.{said}
use Rattle.building.specs.Building.{given_fault}
use Rattle.job.proofs.Written.{building-given}
use Rattle.job.proofs.given.building_fault.Goals as goal

pub returns : goal.returns
returns c =
    let b = c.args.b in
    said (λ (y : ℤ). given_fault y b.building) b.year c.given_fault.ensures c.struct_told-1.given.0.1
    ∙ building-given b.building b
