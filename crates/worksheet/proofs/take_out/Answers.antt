-- `take_out`: the edit of its job, answered with the old face's part taken out.
use mathlib.Core.Path.{◌≡◌, sym, ap, ◌∙◌}
use native.Mathlib.Omega.{arith}
use lib.IntN.{ℤ, nat_abs}
use mir.Syntax.{w64}
use Rattle.whole.proofs.Size.{said, returned}
use Rattle.job.specs.Carried.{carried}
use Rattle.job.specs.InOrder.{InOrder}
use Rattle.edits.specs.Edits.{TakeOut, edit_verdict, edited_job}
use Rattle.worksheet.proofs.Exchange.{none-part}
use Rattle.worksheet.proofs.OneFace.{held_part, was-in-order, take-out-there}
use Rattle.worksheet.proofs.Answered.{refused-is, passes, taken_is}
use Rattle.worksheet.proofs.take_out.Goals.{After-of_held, After-take_out-to, Else-to-ne0, Start}
use Rattle.worksheet.proofs.take_out.Goals as goal

taken_out : (c : After-take_out-to) → let a = c.args in
    c.take_out-to.result ≡ edited_job (TakeOut a.k) a.w.job
taken_out c =
    said (λ (k : ℤ). edited_job (TakeOut k) c.args.w.job) c.args.k c.take_out-to.ensures c.ranges.k.sfits

-- the edit is not refused
module _ (c : Else-to-ne0) where
  abbrev done : After-take_out-to
  done = (goal.at.Else-to-ne0 c).After-take_out-to

  abbrev start : Start
  start = (goal.at.After-take_out-to done).Start

  fine : (edit_verdict (TakeOut start.args.k) start.args.w.job).number ≡ 0
  fine = passes (TakeOut start.args.k) start.args.w done.take_out-to.result (taken_out done) c.if-to-ne0.false

  held : InOrder (carried start.args.w.job)
  held = was-in-order start.args.w.job (TakeOut start.args.k) fine

-- the part of the old face
out-is : (c : After-of_held) → let a = c.args in
    c.of_held.result ≡ held_part a.w.job a.k
out-is c =
    said (held_part c.args.w.job) c.args.k c.of_held.ensures c.ranges.k.sfits

pub returns-then-to-ne0 : goal.returns-then-to-ne0
returns-then-to-ne0 c =
    let at_take_out_to = (goal.at.returns-then-to-ne0 c).After-take_out-to in
    let a = c.args in
    c.refused.ensures ∙ refused-is (TakeOut a.k) a.w c.take_out-to.result (taken_out at_take_out_to) c.if-to-ne0.true

pub of_held-requires : goal.of_held-requires
of_held-requires c =
    let at_to_ne0 = (goal.at.of_held-requires c).Else-to-ne0 in
    let a = c.args in
    let same = ap nat_abs (returned w64 a.k c.ranges.k.sfits).same in
    let there = take-out-there a.w.job a.k (fine at_to_ne0) in
    (held at_to_ne0, omega (arith, same, there.from), omega (arith, same, there.to))

pub returns : goal.returns
returns c =
    let at_take_out_to = (goal.at.returns c).After-take_out-to in
    let at_of_held = (goal.at.returns c).After-of_held in
    let a = c.args in
    c.taken.ensures
    ∙ taken_is (TakeOut a.k) a.w c.take_out-to.result (taken_out at_take_out_to) c.if-to-ne0.false c.of_held.result
    c.none.result (out-is at_of_held) (c.none.ensures ∙ sym (none-part (carried a.w.job)))
