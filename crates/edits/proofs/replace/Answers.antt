-- `replace`: refused, or the faces with another in its place.
use mathlib.Core.Path.{◌≡◌, refl, sym, ap, ◌∙◌}
use mathlib.Core.Bool.{Bool}
use native.Mathlib.Omega.{arith}
use lib.IntN.{ℤ, nat_abs}
use Rattle.whole.proofs.Size.{said}
use Rattle.verdict.specs.declared.Verdict.{Verdict}
use Rattle.building.specs.Year.{has_heights}
use Rattle.building.proofs.Accepted.{Within}
use Rattle.entry.specs.Says.{carried_face}
use Rattle.edits.specs.Faces.{replaced}
use Rattle.edits.specs.Edits.{Replace, held_job, no_such_face, new_face, edit_verdict, edit_faces}
use Rattle.edits.proofs.Counts.{held-in-order, roomed}
use Rattle.edits.proofs.Checks.{Passed, replace-passed, there-is, edit-refused, edit-taken}
use Rattle.edits.proofs.replace.Goals.{After-carried_face-new, After-has_heights, After-magnitude-n, After-of_replace-v}
use Rattle.edits.proofs.replace.Goals.{Else-v-ne0, Start}
use Rattle.edits.proofs.replace.Goals as goal

verdict-is : (c : After-of_replace-v) → let a = c.args in
    c.of_replace-v.result ≡ edit_verdict (Replace a.k a.f) a.j
verdict-is c =
    said (λ (k : ℤ). edit_verdict (Replace k c.args.f) c.args.j) c.args.k c.of_replace-v.ensures
    c.ranges.k.sfits

-- the edit is not refused
module _ (c : After-magnitude-n) where
  abbrev new : After-carried_face-new
  new = (goal.at.After-magnitude-n c).After-carried_face-new

  abbrev heights : After-has_heights
  heights = (goal.at.After-carried_face-new new).After-has_heights

  abbrev fine : Else-v-ne0
  fine = (goal.at.After-has_heights heights).Else-v-ne0

  abbrev judged : After-of_replace-v
  judged = (goal.at.Else-v-ne0 fine).After-of_replace-v

  abbrev start : Start
  start = (goal.at.After-of_replace-v judged).Start

  new_is : new.carried_face-new.result ≡ carried_face (has_heights start.args.j.year) start.args.f
  new_is =
      new.carried_face-new.ensures
      ∙ ap (λ (h : Bool). carried_face h start.args.f)
      (said has_heights start.args.j.year heights.has_heights.ensures
      heights.struct_told-1.given.0.1)

  size_is : c.magnitude-n.result ≡ nat_abs start.args.k
  size_is = said nat_abs start.args.k c.magnitude-n.ensures start.ranges.k.sfits

  passed : Passed (held_job start.args.j) (no_such_face start.args.k start.args.j)
      (new_face (nat_abs start.args.k) start.args.f start.args.j)
  passed =
      replace-passed start.args.j start.args.k start.args.f
      (sym (ap (λ (v : Verdict). v.number) (verdict-is judged)) ∙ fine.if-v-ne0.false)

  there : Within 1 start.args.j.faces.count start.args.k
  there = there-is start.args.j start.args.k passed.second

pub returns-then-v-ne0 : goal.returns-then-v-ne0
returns-then-v-ne0 c =
    let at_of_replace_v = (goal.at.returns-then-v-ne0 c).After-of_replace-v in
    let a = c.args in
    c.refused.ensures
    ∙ edit-refused (Replace a.k a.f) a.j (verdict-is at_of_replace_v) c.if-v-ne0.true

pub replaced-requires : goal.replaced-requires
replaced-requires c =
    let j = c.args.j in
    let few = roomed j (held-in-order j (held_job j) refl (passed c).first) in
    (omega (arith, size_is c, (there c).from), omega (arith, size_is c, (there c).to), few)

pub returns : goal.returns
unfolding edit_faces
returns c =
    let at_of_replace_v = (goal.at.returns c).After-of_replace-v in
    let at_magnitude_n = (goal.at.returns c).After-magnitude-n in
    let a = c.args in
    edit-taken (Replace a.k a.f) a.j (verdict-is at_of_replace_v) c.if-v-ne0.false c.with.ensures
    (c.replaced.ensures ∙ (λ i. replaced (size_is at_magnitude_n i) (new_is at_magnitude_n i) a.j.faces))
