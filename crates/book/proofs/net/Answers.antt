-- `net`: what `outside` answers decides the case, and its alternatives are small enough for every step.
-- what `outside` answered, said of the question
use mathlib.Core.Path.{◌≡◌, sym, ap, ◌∙◌, subst}
use mathlib.Core.Bool.{Bool}
use Prim.Native.Nat.{◌≤◌, ◌<◌, ◌^◌}
use lib.IntN.{ℤ, nat_abs}
use lib.Signed.{mag}
use mir.Syntax.{w64}
use mir.Val.{to_z, of_z}
use Rattle.std.specs.Prelude.{Ok}
use Rattle.whole.proofs.Size.{returned, said}
use Rattle.building.proofs.Judged.{passed_on}
use Rattle.book.specs.Answer.{Answer, values_of}
use Rattle.book.specs.Question.{outside_of, net_cited, too_great}
use Rattle.book.proofs.Answers.{Small, answer-small}
use Rattle.book.proofs.Nets.{internal-small, net-refused, net-answered, net-bad}
use Rattle.book.proofs.net.Goals.{After-outside}
use Rattle.book.proofs.net.Goals as goal

asked : (c : After-outside)
    → let a = c.args in c.outside.result ≡ outside_of a.d.year a.d.building a.direction a.place
asked c =
    said (λ (z : ℤ). outside_of c.args.d.year c.args.d.building z c.args.place) c.args.direction
    c.outside.ensures c.ranges.direction.sfits

-- the test of the internal coefficient, said of the number
tested : (z : ℤ) {r t : Bool} → r ≡ too_great (to_z w64 (of_z w64 z)) → mag z < 2 ^ 63 → r ≡ t → too_great z ≡ t
tested z e h f = sym (said too_great z e h) ∙ f

pub returns-in_err-c : goal.returns-in_err-c
returns-in_err-c c =
    let a = c.args in
    passed_on c.from_residual.result c.from_residual.ensures.1
    ∙ sym (net-refused a.d.year a.d.building a.direction a.place a.internal
    (sym (asked (goal.at.returns-in_err-c c).After-outside) ∙ c.in_err-c.was))

pub returns-then-too_great : goal.returns-then-too_great
returns-then-too_great c =
    let a = c.args in
    let great = tested a.internal c.too_great.ensures c.ranges.internal.sfits c.if-too_great.true in
    sym (net-bad a.d.year a.d.building a.direction a.place a.internal
    (sym (asked (goal.at.returns-then-too_great c).After-outside) ∙ c.in_ok-c.was) great)

pub net_cited-requires : goal.net_cited-requires
net_cited-requires c =
    let at_outside = (goal.at.net_cited-requires c).After-outside in
    let a = c.args in (
      subst (λ (q : Answer). Small (values_of q)) (sym (asked at_outside) ∙ c.in_ok-c.was)
          (answer-small a.d.year a.d.building a.direction a.place),
      subst (λ (y : ℤ). nat_abs y ≤ 100) (sym (returned w64 a.internal c.ranges.internal.sfits).same)
          (internal-small a.internal
          (tested a.internal c.too_great.ensures c.ranges.internal.sfits c.if-too_great.false)),
    )

pub returns : goal.returns
returns c =
    let a = c.args in
    let outside = c.in_ok-c.c in
    let fits = c.ranges.internal.sfits in
    let small = tested a.internal c.too_great.ensures fits c.if-too_great.false in
    ap Ok (said (λ (z : ℤ). net_cited outside z) a.internal c.net_cited.ensures fits)
    ∙ sym (net-answered a.d.year a.d.building a.direction a.place a.internal
    (sym (asked (goal.at.returns c).After-outside) ∙ c.in_ok-c.was) small)
