-- `refusals::of_replace`: one check after the other.
use mathlib.Core.Path.{◌≡◌, sym, ap, ◌∙◌}
use Prim.Native.Nat.{ℕ, ◌≤◌}
use native.Mathlib.Omega.{arith}
use lib.IntN.{nat_abs}
use Rattle.whole.proofs.Size.{said}
use Rattle.verdict.specs.declared.Verdict.{Verdict}
use Rattle.verdict.specs.Verdict.{accepted, ◌or_then◌}
use Rattle.verdict.proofs.After.{then-later, then-earlier}
use Rattle.building.proofs.Accepted.{Within}
use Rattle.job.specs.Carried.{carried, most_faces}
use Rattle.job.specs.InOrder.{InOrder}
use Rattle.edits.specs.Edits.{held_job, no_such_face, new_face, edit_verdict}
use Rattle.edits.proofs.Counts.{held-in-order, roomed}
use Rattle.edits.proofs.Checks.{held-refused, held-passed, there-is}
use Rattle.edits.proofs.refusals.of_replace.Goals.{After-judge-held, After-magnitude, After-no_such_face-none}
use Rattle.edits.proofs.refusals.of_replace.Goals.{Else-held-ne0, Start}
use Rattle.edits.proofs.refusals.of_replace.Goals as goal

abbrev number_in : Verdict → ℕ
number_in v = v.number

-- the held job is in order
module _ (c : After-no_such_face-none) where
  abbrev held : Else-held-ne0
  held = (goal.at.After-no_such_face-none c).Else-held-ne0

  abbrev judged : After-judge-held
  judged = (goal.at.Else-held-ne0 held).After-judge-held

  abbrev start : Start
  start = (goal.at.After-judge-held judged).Start

  in_order : InOrder (carried start.args.j)
  in_order = held-in-order start.args.j judged.judge-held.result judged.judge-held.ensures held.if-held-ne0.false

  none_is : c.no_such_face-none.result ≡ no_such_face start.args.k start.args.j
  none_is =
      said (λ k. no_such_face k start.args.j) start.args.k c.no_such_face-none.ensures start.ranges.k.sfits

  past-held : (w : Verdict) → (held_job start.args.j or_then w) ≡ w
  past-held w = held-passed start.args.j w judged.judge-held.ensures held.if-held-ne0.false

-- there is such a face
module _ (c : After-magnitude) where
  abbrev asked : After-no_such_face-none
  asked = (goal.at.After-magnitude c).After-no_such_face-none

  there : Within 1 asked.args.j.faces.count asked.args.k
  there =
      there-is asked.args.j asked.args.k
      (sym (ap number_in (none_is asked)) ∙ c.if-none-ne0.false)

  size_is : c.magnitude.result ≡ nat_abs asked.args.k
  size_is = said nat_abs asked.args.k c.magnitude.ensures asked.ranges.k.sfits

  few : c.magnitude.result ≤ most_faces
  few = omega (arith, size_is, there.to, roomed asked.args.j (in_order asked))

pub returns-then-held-ne0 : goal.returns-then-held-ne0
unfolding edit_verdict
returns-then-held-ne0 c = held-refused c.args.j _ c.judge-held.ensures c.if-held-ne0.true

pub returns-then-none-ne0 : goal.returns-then-none-ne0
unfolding edit_verdict
returns-then-none-ne0 c =
    let at_no_such_face_none = (goal.at.returns-then-none-ne0 c).After-no_such_face-none in
    let e = none_is at_no_such_face_none in
    let a = c.args in
    e
    ∙ sym (past-held at_no_such_face_none _ ∙ then-earlier (no_such_face a.k a.j) _ (λ z. c.if-none-ne0.true
    (ap number_in e ∙ z)))

pub overflow_cast-magnitude : goal.overflow_cast-magnitude
overflow_cast-magnitude c = omega (arith, few c)

pub new_face-requires : goal.new_face-requires
new_face-requires c = (in_order (goal.at.new_face-requires c).After-no_such_face-none, omega (arith, few c))

pub returns : goal.returns
unfolding edit_verdict
returns c =
    let at_no_such_face_none = (goal.at.returns c).After-no_such_face-none in
    let a = c.args in
    c.new_face.ensures
    ∙ ap (λ (k : ℕ). new_face k a.f a.j or_then accepted) (size_is (goal.at.returns c).After-magnitude)
    ∙ sym (past-held at_no_such_face_none _
    ∙ then-later (no_such_face a.k a.j) _ (sym (ap number_in (none_is at_no_such_face_none)) ∙ c.if-none-ne0.false))
