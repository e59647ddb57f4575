-- `twos::mark_twos` meets its contract: after i faces those of the first i that have two are marked, and the others as
-- they were.
use mathlib.Core.Path.{◌≡◌, ap, ◌∙◌}
use mathlib.Core.Bool.{false, ◌||◌}
use Prim.Native.Nat.{ℕ, ◌-◌, ◌<◌}
use native.Mathlib.Omega.{arith}
use lib.ListN.{length, get_or, set, length-set}
use lib.Seq.{get_or-set_same, get_or-set_other}
use Rattle.whole.proofs.Numbers.{below_next}
use Rattle.job.specs.Carried.{carried, most_faces}
use Rattle.worst.specs.declared.FaceForces.{FaceForces}
use Rattle.worst.specs.declared.CellForces.{CellForces}
use Rattle.worst.specs.Forces.{wind_at, internal_at}
use Rattle.worst.specs.Worst.{given}
use Rattle.worst.specs.PerFace.{face_forces, no_face_forces}
use Rattle.worst.proofs.Rows.{ready, cell-is, row_is}
use Rattle.plain.specs.ByNumber.{has_two}
use Rattle.plain.specs.Walked.{two_under}
use Rattle.plain.proofs.twos.mark_twos.Goals.{After-forces_of-cell, In-loop-i}
use Rattle.plain.proofs.twos.mark_twos.Goals as goal

room : (d : In-loop-i) → d.loop-i.i < most_faces
room d = omega (arith, (ready d.args.job d.requires.0).profiled.few)

-- whether a face has two under the wind
twos : (c : After-forces_of-cell) (k : ℕ) → k < c.args.job.faces.count
    → has_two (get_or c.forces_of-cell.result.face k no_face_forces) ≡ two_under c.args.job (c.args.wind - 1) k
unfolding face_forces
twos c k h =
    let j = c.args.job in
    let w = c.args.wind in
    let t = c.requires.0 in
    let one = (ready j t).some_internal in
    let g = given (carried j) in
    ap (λ (x : CellForces). has_two (get_or x.face k no_face_forces))
    (c.forces_of-cell.ensures
    ∙ cell-is j t w 1 (omega (arith, c.requires.1)) c.requires.2 (omega arith) (omega (arith, one)))
    ∙ ap (λ (x : FaceForces). has_two x) (row_is j t (wind_at g w) (internal_at g 1) k h)

pub bounds-cell-i : goal.bounds-cell-i
bounds-cell-i c = room c

pub bounds-marks-i : goal.bounds-marks-i
bounds-marks-i c = room (goal.at.bounds-marks-i c).In-loop-i

pub bounds-marks-i-in-loop-i : goal.bounds-marks-i-in-loop-i
bounds-marks-i-in-loop-i c = room (goal.at.bounds-marks-i-in-loop-i c).In-loop-i

pub loop-i-preserved : goal.loop-i-preserved
loop-i-preserved c =
    let i = c.loop-i.i in
    let marks = c.loop-i.marks in
    let was = c.loop-i.invariant in
    let new = get_or marks i false || c.has_two.result in
    let fits : i < length marks = omega (arith, room (goal.at.loop-i-preserved c).In-loop-i, was.long) in
    record {
      long = length-set marks i new ∙ was.long;
      marked =
          below_next
          (λ k.
          get_or (set marks i new) k false
          ≡ (get_or c.args.marks.now k false || has_two (get_or c.forces_of-cell.result.face k no_face_forces)))
          i
          (λ k t. get_or-set_other marks i k new false (λ e. omega arith) ∙ was.marked k t)
          (get_or-set_same marks i new false fits
          ∙ (λ m. was.others i (omega arith) m || c.has_two.ensures m));
      others = λ k t. get_or-set_other marks i k new false (λ e. omega arith) ∙ was.others k (omega arith);
    }

pub returns : goal.returns
returns c = (
  c.loop-i.invariant.long,
  λ k h.
      c.loop-i.invariant.marked k (omega arith)
      ∙ ap (λ t. get_or c.args.marks.now k false || t) (twos (goal.at.returns c).After-forces_of-cell k h),
)
