-- `given::count_fault` meets its contract.
use mathlib.Core.Path.{sym, ◌∙◌}
use native.Mathlib.Omega.{arith}
use mir.Syntax.{w64}
use Rattle.whole.proofs.Size.{nat, returned}
use Rattle.building.specs.Fault.{first}
use Rattle.rules.specs.declared.Kind.TheVariants.{Count}
use Rattle.rules.specs.Sections.{count_faults}
use Rattle.rules.proofs.Form.{formed-in, none, more, letter, count}
use Rattle.rules.proofs.Line.{fault-in}
use Rattle.job.proofs.Sections.{count_line}
use Rattle.job.proofs.given.count_fault.Goals as goal

pub returns : goal.returns
returns c =
    let a = c.args in
    let year = (returned w64 a.b.year c.struct_told-1.given.0.1).same in
    let n = (nat w64 {n = a.n} 4294967295 (omega arith) tt).same in
    c.count_fault.ensures
    ∙ (λ i. first (count_faults (year i) a.s (c.section_letter-letter.ensures i) (n i)))
    ∙ sym (fault-in (Count a.s) a.b (count_line a.s a.n) (formed-in (more letter (more count none))))
