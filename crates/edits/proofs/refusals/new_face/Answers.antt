-- `refusals::new_face`: the number first, and its line where there is one.
use mathlib.Core.Path.{sym, ap₂, ◌∙◌}
use Rattle.verdict.specs.Verdict.{accepted, refusal}
use Rattle.verdict.proofs.After.{then-later, then-earlier}
use Rattle.edits.specs.Edits.{new_face}
use Rattle.edits.proofs.refusals.new_face.Goals as goal

pub returns-then-number-eq0 : goal.returns-then-number-eq0
returns-then-number-eq0 c =
    let a = c.args in
    sym (then-later (new_face a.k a.f a.j) accepted (sym c.new_face_fault-number.ensures ∙ c.if-number-eq0.true))

pub line_of-requires : goal.line_of-requires
line_of-requires c = c.requires

pub returns : goal.returns
returns c =
    let a = c.args in
    ap₂ refusal c.new_face_fault-number.ensures c.line_of.ensures
    ∙ sym (then-earlier (new_face a.k a.f a.j) accepted (λ z. c.if-number-eq0.false
    (c.new_face_fault-number.ensures ∙ z)))
