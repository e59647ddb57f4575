-- `faults::count_fault` meets its contract.
use mathlib.Core.Path.{ap, ◌∙◌}
use mir.Syntax.{w64}
use Rattle.whole.proofs.Size.{returned}
use Rattle.building.specs.Fault.{first}
use Rattle.entry.specs.Says.{letter, number}
use Rattle.rules.specs.Sections.{count_faults}
use Rattle.rules.proofs.faults.count_fault.Goals as goal

pub returns : goal.returns
returns c =
    let a = c.args in
    let year = (returned w64 a.b.year c.struct_told-1.given.0.1).same in
    let name = c.letter_of.ensures ∙ ap letter c.field_at.ensures in
    let count =
    (returned w64 _ c.number_of.type_inv).same ∙ c.number_of.ensures ∙ ap number c.field_at-2.ensures in
    c.count_fault.ensures ∙ (λ i. first (count_faults (year i) a.s (name i) (count i)))
