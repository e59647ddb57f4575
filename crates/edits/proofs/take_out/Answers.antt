-- `take_out`: refused, or the faces without one.
use mathlib.Core.Path.{◌≡◌, refl, sym, ap, ◌∙◌}
use Prim.Native.Nat.{ℕ}
use native.Mathlib.Omega.{arith}
use lib.IntN.{ℤ, nat_abs}
use Rattle.whole.proofs.Size.{said}
use Rattle.verdict.specs.declared.Verdict.{Verdict}
use Rattle.building.proofs.Accepted.{Within}
use Rattle.edits.specs.Faces.{taken_out}
use Rattle.edits.specs.Edits.{TakeOut, held_job, no_such_face, only_face, edit_verdict, edit_faces}
use Rattle.edits.proofs.Counts.{held-in-order, roomed}
use Rattle.edits.proofs.Checks.{Passed, take-out-passed, there-is, edit-refused, edit-taken}
use Rattle.edits.proofs.take_out.Goals.{After-magnitude-n, After-of_take_out-v, Else-v-ne0, Start}
use Rattle.edits.proofs.take_out.Goals as goal

verdict-is : (c : After-of_take_out-v) → let a = c.args in
    c.of_take_out-v.result ≡ edit_verdict (TakeOut a.k) a.j
verdict-is c =
    said (λ (k : ℤ). edit_verdict (TakeOut k) c.args.j) c.args.k c.of_take_out-v.ensures
    c.ranges.k.sfits

-- the edit is not refused
module _ (c : After-magnitude-n) where
  abbrev fine : Else-v-ne0
  fine = (goal.at.After-magnitude-n c).Else-v-ne0

  abbrev judged : After-of_take_out-v
  judged = (goal.at.Else-v-ne0 fine).After-of_take_out-v

  abbrev start : Start
  start = (goal.at.After-of_take_out-v judged).Start

  size_is : c.magnitude-n.result ≡ nat_abs start.args.k
  size_is = said nat_abs start.args.k c.magnitude-n.ensures start.ranges.k.sfits

  passed : Passed (held_job start.args.j) (no_such_face start.args.k start.args.j) (only_face
      start.args.j)
  passed =
      take-out-passed start.args.j start.args.k
      (sym (ap (λ (v : Verdict). v.number) (verdict-is judged)) ∙ fine.if-v-ne0.false)

  there : Within 1 start.args.j.faces.count start.args.k
  there = there-is start.args.j start.args.k passed.second

pub returns-then-v-ne0 : goal.returns-then-v-ne0
returns-then-v-ne0 c =
    let at_of_take_out_v = (goal.at.returns-then-v-ne0 c).After-of_take_out-v in
    let a = c.args in
    c.refused.ensures
    ∙ edit-refused (TakeOut a.k) a.j (verdict-is at_of_take_out_v) c.if-v-ne0.true

pub taken_out-requires : goal.taken_out-requires
taken_out-requires c =
    let j = c.args.j in
    let few = roomed j (held-in-order j (held_job j) refl (passed c).first) in
    (omega (arith, size_is c, (there c).from), omega (arith, size_is c, (there c).to), few)

pub returns : goal.returns
unfolding edit_faces
returns c =
    let at_of_take_out_v = (goal.at.returns c).After-of_take_out-v in
    let at_magnitude_n = (goal.at.returns c).After-magnitude-n in
    let a = c.args in
    edit-taken (TakeOut a.k) a.j (verdict-is at_of_take_out_v) c.if-v-ne0.false c.with.ensures
    (c.taken_out.ensures ∙ ap (λ (k : ℕ). taken_out k a.j.faces) (size_is at_magnitude_n))
