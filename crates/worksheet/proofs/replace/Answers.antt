-- `replace`: the edit of its job, answered with the old face's part taken out and the new one's put in.
use mathlib.Core.Path.{◌≡◌, ap, ◌∙◌}
use native.Mathlib.Omega.{arith}
use lib.IntN.{ℤ, nat_abs}
use mir.Syntax.{w64}
use Rattle.whole.proofs.Size.{said, returned}
use Rattle.job.specs.Carried.{carried}
use Rattle.job.specs.InOrder.{InOrder}
use Rattle.edits.specs.Edits.{Replace, edit_verdict, edited_job}
use Rattle.worksheet.proofs.OneFace.{held_part, was-in-order, replace-alone, replace-there}
use Rattle.worksheet.proofs.Answered.{refused-is, passes, taken_is}
use Rattle.worksheet.proofs.replace.Goals.{After-of_held-out, After-replace-to, Else-to-ne0, Start}
use Rattle.worksheet.proofs.replace.Goals as goal

replaced : (c : After-replace-to) → let a = c.args in
    c.replace-to.result ≡ edited_job (Replace a.k a.f) a.w.job
replaced c =
    said (λ (k : ℤ). edited_job (Replace k c.args.f) c.args.w.job) c.args.k c.replace-to.ensures
    c.ranges.k.sfits

-- the edit is not refused
module _ (c : Else-to-ne0) where
  abbrev done : After-replace-to
  done = (goal.at.Else-to-ne0 c).After-replace-to

  abbrev start : Start
  start = (goal.at.After-replace-to done).Start

  fine : (edit_verdict (Replace start.args.k start.args.f) start.args.w.job).number ≡ 0
  fine =
      passes (Replace start.args.k start.args.f) start.args.w done.replace-to.result (replaced done)
      c.if-to-ne0.false

  held : InOrder (carried start.args.w.job)
  held = was-in-order start.args.w.job (Replace start.args.k start.args.f) fine

-- the part of the old face
out-is : (c : After-of_held-out) → let a = c.args in
    c.of_held-out.result ≡ held_part a.w.job a.k
out-is c =
    said (held_part c.args.w.job) c.args.k c.of_held-out.ensures c.ranges.k.sfits

pub returns-then-to-ne0 : goal.returns-then-to-ne0
returns-then-to-ne0 c =
    let at_replace_to = (goal.at.returns-then-to-ne0 c).After-replace-to in
    let a = c.args in
    c.refused.ensures
    ∙ refused-is (Replace a.k a.f) a.w c.replace-to.result (replaced at_replace_to) c.if-to-ne0.true

pub of_held-out-requires : goal.of_held-out-requires
of_held-out-requires c =
    let at_to_ne0 = (goal.at.of_held-out-requires c).Else-to-ne0 in
    let a = c.args in
    let same = ap nat_abs (returned w64 a.k c.ranges.k.sfits).same in
    let there = replace-there a.w.job a.k a.f (fine at_to_ne0) in
    (held at_to_ne0, omega (arith, same, there.from), omega (arith, same, there.to))

pub of_face-new-requires : goal.of_face-new-requires
of_face-new-requires c =
    let at_to_ne0 = (goal.at.of_face-new-requires c).Else-to-ne0 in
    let a = c.args in
    replace-alone a.w.job (held at_to_ne0) a.k a.f (fine at_to_ne0)

pub returns : goal.returns
returns c =
    let at_replace_to = (goal.at.returns c).After-replace-to in
    let a = c.args in
    c.taken.ensures
    ∙ taken_is (Replace a.k a.f) a.w c.replace-to.result (replaced at_replace_to) c.if-to-ne0.false c.of_held-out.result
    c.of_face-new.result (out-is (goal.at.returns c).After-of_held-out) c.of_face-new.ensures
