-- `add`: the edit of its job, answered with the new face's part put in.
use mathlib.Core.Path.{◌≡◌, sym, ◌∙◌}
use Rattle.job.specs.Carried.{carried}
use Rattle.edits.specs.Edits.{Add, edit_verdict}
use Rattle.worksheet.proofs.Exchange.{none-part}
use Rattle.worksheet.proofs.OneFace.{was-in-order, add-alone}
use Rattle.worksheet.proofs.Answered.{refused-is, passes, taken_is}
use Rattle.worksheet.proofs.add.Goals.{After-add-to, Else-to-ne0, Start}
use Rattle.worksheet.proofs.add.Goals as goal

-- the edit is not refused
module _ (c : Else-to-ne0) where
  abbrev done : After-add-to
  done = (goal.at.Else-to-ne0 c).After-add-to

  abbrev start : Start
  start = (goal.at.After-add-to done).Start

  fine : (edit_verdict (Add start.args.f) start.args.w.job).number ≡ 0
  fine = passes (Add start.args.f) start.args.w done.add-to.result done.add-to.ensures c.if-to-ne0.false

pub returns-then-to-ne0 : goal.returns-then-to-ne0
returns-then-to-ne0 c =
    let a = c.args in
    c.refused.ensures ∙ refused-is (Add a.f) a.w c.add-to.result c.add-to.ensures c.if-to-ne0.true

pub of_face-new-requires : goal.of_face-new-requires
of_face-new-requires c =
    let at_to_ne0 = (goal.at.of_face-new-requires c).Else-to-ne0 in
    let a = c.args in
    let j = a.w.job in
    add-alone j (was-in-order j (Add a.f) (fine at_to_ne0)) a.f (fine at_to_ne0)

pub returns : goal.returns
returns c =
    let a = c.args in
    c.taken.ensures
    ∙ taken_is (Add a.f) a.w c.add-to.result c.add-to.ensures c.if-to-ne0.false c.none.result
    c.of_face-new.result (c.none.ensures ∙ sym (none-part (carried a.w.job))) c.of_face-new.ensures
