-- `zones::flat`: E has the value of its column, and F the same in every row.
use mathlib.Core.Path.{ap, ◌∙◌}
use mir.Syntax.{w32}
use Rattle.whole.proofs.Size.{returned}
use Rattle.book.specs.Zones.{both_ends}
use Rattle.book.proofs.FourZones.{flat-e, f-ends}
use Rattle.book.proofs.zones.flat.Goals as goal

pub returns : goal.returns
returns c wind =
    let value = (returned w32 c.roof_value.result c.roof_value.type_inv).same ∙ c.roof_value.ensures in
    let e = c.alone-e.ensures ∙ ap both_ends value ∙ flat-e c.args.s wind c.requires.kind_nonzero.1 in
    let f = f-ends c.args.s wind c.requires.sizes_in_order c.requires.kind_nonzero.0 c.requires.kind_nonzero.1 in
    let none = c.alone-zero.ensures in
    λ j. record { first = e j; second = f j; third = none j; fourth = none j }
