-- `coefficients::in_book` meets its contract: each part of the answer, and the internal coefficient taken off.
use mathlib.Core.Path.{◌≡◌, sym, ap, ◌∙◌, subst}
use Prim.Native.Nat.{◌≤◌}
use borrow.Author.Rules.{rules}
use lib.IntN.{ℤ, nat_abs}
use mir.Syntax.{w32, w64}
use mir.Val.{SFits, to_z, of_z}
use mir.ValLaws.{to_z-of_z}
use Rattle.book.specs.Answer.{Answer}
use Rattle.book.specs.Question.{outside_of, net}
use Rattle.account.specs.Account.{cited_rows}
use Rattle.account.specs.Coefficients.{outside_in}
use Rattle.account.proofs.coefficients.in_book.Goals.{After-outside_in-outside, Start}
use Rattle.account.proofs.coefficients.in_book.Goals as goal

module _ (c : After-outside_in-outside) where
  abbrev s : Start
  s = (goal.at.After-outside_in-outside c).Start

  abbrev asked : Answer
  asked = outside_of s.args.d.year s.args.d.building s.args.direction s.args.zone

  answered : c.outside-a.result ≡ asked
  answered =
      c.outside-a.ensures
      ∙ ap (λ (z : ℤ). outside_of s.args.d.year s.args.d.building z s.args.zone)
      (to_z-of_z w64 s.args.direction s.ranges.direction)

  outside : to_z w32 (of_z w32 c.outside_in-outside.result) ≡ outside_in asked s.args.alternative
  outside =
      let fits : SFits w32 c.outside_in-outside.result = search rules in
      to_z-of_z w32 _ fits ∙ c.outside_in-outside.ensures
      ∙ ap (λ (x : Answer). outside_in x s.args.alternative) answered

  internal : to_z w64 (of_z w64 s.args.internal) ≡ s.args.internal
  internal = to_z-of_z w64 s.args.internal s.ranges.internal

pub less-net-requires : goal.less-net-requires
less-net-requires c =
    let at_outside_in_outside = (goal.at.less-net-requires c).After-outside_in-outside in (
      subst (λ (z : ℤ). nat_abs z ≤ 1200) (sym (outside at_outside_in_outside)) c.requires.0,
      subst (λ (z : ℤ). nat_abs z ≤ 100) (sym (internal at_outside_in_outside)) c.requires.1,
    )

pub returns : goal.returns
returns c =
    let at_outside_in_outside = (goal.at.returns c).After-outside_in-outside in
    let fits : SFits w32 c.less-net.result = search rules in
    let net-is = to_z-of_z w32 _ fits ∙ c.less-net.ensures ∙ (λ i. net (outside at_outside_in_outside i)
    (internal at_outside_in_outside i)) in
    λ i. record {
      rows = (c.rows_of-rows.ensures ∙ ap cited_rows (answered at_outside_in_outside)) i;
      outside = outside at_outside_in_outside i;
      net = net-is i;
    }
