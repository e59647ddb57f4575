-- `building_refusal`: the year is read back as it is.
use mathlib.Core.Path.{ap₂}
use Rattle.verdict.specs.Verdict.{refusal}
use Rattle.building.specs.Year.{building_line}
use Rattle.whole.proofs.Size.{said}
use Rattle.building.proofs.building_refusal.Goals as goal

pub returns : goal.returns
returns c =
    ap₂ refusal c.given_fault.ensures
    (said building_line c.args.d.year c.building_line.ensures c.struct_told-1.given.0.1)
