-- `refusals::of_add`: one check after the other.
use mathlib.Core.Path.{sym, ap₂, ◌∙◌}
use native.Mathlib.Omega.{arith}
use Prim.Native.Nat.{◌≤◌}
use Rattle.job.specs.Carried.{carried, most_faces}
use Rattle.job.specs.InOrder.{InOrder}
use Rattle.verdict.specs.Verdict.{◌or_then◌}
use Rattle.edits.specs.Edits.{edit_verdict}
use Rattle.edits.proofs.Counts.{held-in-order, roomed}
use Rattle.edits.proofs.Checks.{held-refused, held-passed}
use Rattle.edits.proofs.refusals.of_add.Goals.{After-judge-held, Else-held-ne0, Start}
use Rattle.edits.proofs.refusals.of_add.Goals as goal

-- the held job is in order
module _ (c : Else-held-ne0) where
  abbrev judged : After-judge-held
  judged = (goal.at.Else-held-ne0 c).After-judge-held

  abbrev start : Start
  start = (goal.at.After-judge-held judged).Start

  in_order : InOrder (carried start.args.j)
  in_order = held-in-order start.args.j judged.judge-held.result judged.judge-held.ensures c.if-held-ne0.false

  few : start.args.j.faces.count ≤ most_faces
  few = roomed start.args.j in_order

pub returns-then-held-ne0 : goal.returns-then-held-ne0
unfolding edit_verdict
returns-then-held-ne0 c = held-refused c.args.j _ c.judge-held.ensures c.if-held-ne0.true

pub overflow_add-j : goal.overflow_add-j
overflow_add-j c = omega (arith, few (goal.at.overflow_add-j c).Else-held-ne0)

pub new_face-own-requires : goal.new_face-own-requires
new_face-own-requires c =
    let at_held_ne0 = (goal.at.new_face-own-requires c).Else-held-ne0 in
    (in_order at_held_ne0, omega (arith, few at_held_ne0))

pub returns : goal.returns
unfolding edit_verdict
returns c =
    c.or_then.ensures ∙ ap₂ ◌or_then◌ c.full.ensures c.new_face-own.ensures
    ∙ sym (held-passed c.args.j _ c.judge-held.ensures c.if-held-ne0.false)
