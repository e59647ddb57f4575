-- `outside`: what the question came to decides the case, and a question in order is about a building in order.
-- what was asked, said of the question
use mathlib.Core.Path.{◌≡◌, sym, ap, ◌∙◌, subst}
use Prim.Native.Nat.{ℕ}
use lib.IntN.{ℤ, nat_abs}
use Rattle.std.specs.Prelude.{Ok, Err}
use Rattle.building.specs.Question.{Question, asked_of}
use Rattle.whole.proofs.Size.{said}
use Rattle.building.proofs.Judged.{passed_on, FitIn, question-fits}
use Rattle.book.specs.Question.{coefficient_of, answer_to, outside_of}
use Rattle.book.proofs.outside.Goals.{After-asked}
use Rattle.book.proofs.outside.Goals as goal

asked : (c : After-asked) → let a = c.args in
    c.asked.result ≡ asked_of a.d.year a.d.building a.direction a.place
asked c =
    said (λ (z : ℤ). asked_of c.args.d.year c.args.d.building z c.args.place) c.args.direction
    c.asked.ensures c.ranges.direction.sfits

-- and the question's answer
on : (c : After-asked) (q : Question) → c.asked.result ≡ q
    → let a = c.args in
    answer_to q (nat_abs a.direction) a.place ≡ outside_of a.d.year a.d.building a.direction a.place
unfolding outside_of
on c q e =
    let a = c.args in
    ap (λ (r : Question). answer_to r (nat_abs a.direction) a.place) (sym e ∙ asked c)

pub returns-in_err-s : goal.returns-in_err-s
returns-in_err-s c =
    passed_on c.from_residual.result c.from_residual.ensures.1
    ∙ on (goal.at.returns-in_err-s c).After-asked (Err c.in_err-s.field-0.0) c.in_err-s.was

pub coefficient-requires : goal.coefficient-requires
coefficient-requires c =
    let a = c.args in
    let f =
    subst (FitIn a.d.year a.d.building a.direction a.place)
    (sym (asked (goal.at.coefficient-requires c).After-asked) ∙ c.in_ok-s.was)
    (question-fits a.d.year a.d.building a.direction a.place) in
    record { sizes_in_order = f.order; kind_nonzero = f.roofed }

pub returns : goal.returns
returns c =
    let a = c.args in
    let wind = said nat_abs a.direction c.magnitude.ensures c.ranges.direction.sfits in
    ap Ok (c.coefficient.ensures ∙ ap (λ (n : ℕ). coefficient_of c.in_ok-s.s n a.place) wind)
    ∙ on (goal.at.returns c).After-asked (Ok c.in_ok-s.s) c.in_ok-s.was
