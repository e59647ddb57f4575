-- `mark_field` meets its contract.
use mathlib.Core.Path.{◌∙◌}
use native.Mathlib.Omega.{arith}
use Rattle.whole.proofs.Size.{said}
use Rattle.entry.specs.Says.{both}
use Rattle.building.proofs.Machine.{bits-same, bits-other}
use Rattle.entry_written.specs.Fields.{number_field}
use Rattle.entry_written.proofs.Slots.{mark-both, mark-one}
use Rattle.entry_written.proofs.mark_field.Goals as goal

pub returns-then-z-eq-BOTH : goal.returns-then-z-eq-BOTH
returns-then-z-eq-BOTH c =
    let z = c.args.z in
    mark-both z (bits-same both z (omega arith) c.ranges.z.sfits c.if-z-eq-BOTH.true)

pub returns : goal.returns
returns c =
    let z = c.args.z in
    said number_field z c.number_field.ensures c.ranges.z.sfits
    ∙ mark-one z (bits-other both z (omega arith) c.ranges.z.sfits c.if-z-eq-BOTH.false)
