-- `add`: refused, or the faces with one more.
use mathlib.Core.Path.{◌≡◌, sym, ap, ◌∙◌}
use mathlib.Core.Bool.{Bool}
use Rattle.job.specs.Carried.{carried}
use Rattle.job.proofs.Room.{limit-roomed}
use native.Mathlib.Omega.{arith}
use Rattle.whole.proofs.Size.{said}
use Rattle.verdict.specs.declared.Verdict.{Verdict}
use Rattle.building.specs.Year.{has_heights}
use Rattle.entry.specs.declared.Face.{Face}
use Rattle.entry.specs.Says.{carried_face}
use Rattle.edits.specs.Faces.{added}
use Rattle.edits.specs.Edits.{Add, edit_faces}
use Rattle.edits.proofs.Checks.{add-passed, has_room, edit-refused, edit-taken}
use Rattle.edits.proofs.add.Goals.{After-carried_face-new, After-has_heights, After-of_add-v, Else-v-ne0, Start}
use Rattle.edits.proofs.add.Goals as goal

-- the edit is not refused
module _ (c : After-carried_face-new) where
  abbrev heights : After-has_heights
  heights = (goal.at.After-carried_face-new c).After-has_heights

  abbrev fine : Else-v-ne0
  fine = (goal.at.After-has_heights heights).Else-v-ne0

  abbrev judged : After-of_add-v
  judged = (goal.at.Else-v-ne0 fine).After-of_add-v

  abbrev start : Start
  start = (goal.at.After-of_add-v judged).Start

  new_is : c.carried_face-new.result ≡ carried_face (has_heights start.args.j.year) start.args.f
  new_is =
      c.carried_face-new.ensures
      ∙ ap (λ (h : Bool). carried_face h start.args.f)
      (said has_heights start.args.j.year heights.has_heights.ensures
      heights.struct_told-1.given.0.1)

pub returns-then-v-ne0 : goal.returns-then-v-ne0
returns-then-v-ne0 c =
    let a = c.args in
    c.refused.ensures
    ∙ edit-refused (Add a.f) a.j c.of_add-v.ensures c.if-v-ne0.true

pub added-requires : goal.added-requires
added-requires c =
    let j = c.args.j in
    let f = c.args.f in
    let zero = sym (ap (λ (v : Verdict). v.number) c.of_add-v.ensures) ∙ c.if-v-ne0.false in
    omega (arith, has_room j (add-passed j f zero).second, limit-roomed (carried j).year)

pub returns : goal.returns
unfolding edit_faces
returns c =
    let a = c.args in
    edit-taken (Add a.f) a.j c.of_add-v.ensures c.if-v-ne0.false c.with.ensures
    (c.added.ensures ∙ ap (λ (f : Face). added f a.j.faces) (new_is (goal.at.returns c).After-carried_face-new))
