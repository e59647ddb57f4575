-- `count_said` meets its contract: a letter and a number are a count line in form.
use mathlib.Core.Path.{ap, sym, ◌∙◌}
use native.Mathlib.Omega.{arith}
use lib.IntN.{ℤ, nat_abs}
use mir.Syntax.{w64}
use mir.Val.{to_z, of_z}
use Rattle.whole.proofs.Size.{said}
use Rattle.building.specs.Fault.{first}
use Rattle.rules.specs.Sections.{count_faults}
use Rattle.sheet.proofs.Plain.{short_back}
use Rattle.sheet.proofs.PlainLine.{count-plain}
use Rattle.sheet.proofs.Unless.{sound, faulty}
use borrow.Author.Rules.{rules}
use Rattle.sheet.proofs.said.count_said.Goals.{in-0, in_default}
use Rattle.sheet.proofs.said.count_said.Goals as goal

pub returns : goal.returns
returns c =
    let a = c.args in
    let letter = c.in-Some.letter in
    let lo = c.in-Some.ensures in
    let w = c.in-Some-number_at.w in
    let n = c.in-Some-number_at.ensures in
    let back = short_back w.z n.short in
    let p = count-plain letter lo.1 lo.2 a.s.now a.at lo.3 a.sec a.b w.z w.end n in
    let fault =
    said (λ (y : ℤ). first (count_faults y a.sec letter (to_z w64 (of_z w64 w.z)))) a.b.year c.count_fault.ensures
    (search rules)
    ∙ ap (λ (y : ℤ). first (count_faults a.b.year a.sec letter y)) back
    ∙ p.0 in
    elim c.match-count_fault.branch [
      | in-0 k ↦ k.result-is
          ∙ sound _ _ (sym fault ∙ k.in-0.is)
          (λ i. record { next = sym p.1 i; count = (k.magnitude.ensures ∙ ap nat_abs back ∙ p.2) i })
      | in_default k ↦ k.result-is ∙ faulty _ _ (λ e. omega (arith, e, k.in_default)) fault
    ]
