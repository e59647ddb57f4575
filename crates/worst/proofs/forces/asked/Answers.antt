-- `forces::asked` meets its contract: an arm for each answer.
-- what an answer comes to is what the question's answer comes to
use mathlib.Core.Path.{◌≡◌, sym, ap, ◌∙◌}
use lib.IntN.{ℤ}
use Rattle.std.specs.Prelude.{Ok, Err}
use Rattle.whole.proofs.Size.{said}
use Rattle.book.specs.Answer.{Answer, values_of}
use Rattle.book.specs.Question.{outside_of}
use Rattle.worst.specs.AtPressure.{coefficients_of, coefficients_at}
use Rattle.worst.proofs.forces.asked.Goals.{After-outside}
use Rattle.worst.proofs.forces.asked.Goals as goal

answered : (c : After-outside) (a : Answer) → c.outside.result ≡ a
    → let s = c.args in
    coefficients_of (values_of a) ≡ coefficients_at s.d.year s.d.building s.w s.f
answered c a e =
    let s = c.args in
    let q =
    said (λ (d : ℤ). outside_of s.d.year s.d.building d s.f.zone) s.w.direction c.outside.ensures
    c.struct_told-1.given.0.1 in
    ap (λ (x : Answer). coefficients_of (values_of x)) (sym e ∙ q)

pub returns-in-Ok : goal.returns-in-Ok
returns-in-Ok c =
    let at_outside = (goal.at.returns-in-Ok c).After-outside in
    c.of_values.ensures ∙ answered at_outside (Ok c.in-Ok.c) c.in-Ok.is

pub returns-in-Err : goal.returns-in-Err
returns-in-Err c =
    let at_outside = (goal.at.returns-in-Err c).After-outside in
    c.of_pair.ensures ∙ answered at_outside (Err c.in-Err.field-0) c.in-Err.is
