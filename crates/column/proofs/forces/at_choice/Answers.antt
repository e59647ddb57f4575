-- `forces::at_choice` meets its contract: a pass over the faces, each force behind those before it.
use mathlib.Core.Path.{◌≡◌, sym, ◌∙◌}
use Prim.Native.Nat.{ℕ}
use native.Mathlib.Omega.{arith}
use lib.IntN.{ℤ, pos}
use mathlib.Core.List.{List}
use lib.ListN.{set, replicate}
use mir.Syntax.{w64}
use mir.Val.{to_z, of_z}
use mir.ValLaws.{to_z-of_z}
use Rattle.whole.specs.Lists.{first_of}
use Rattle.whole.proofs.Lists.{first_of-none}
use Rattle.job.specs.Carried.{most_faces}
use Rattle.worst.specs.declared.Axis.{Axis}
use Rattle.worst.specs.declared.FaceForces.{FaceForces}
use Rattle.worst.specs.PerFace.{no_face_forces}
use Rattle.worst.specs.Rows.{force_in}
use Rattle.column.specs.Column.{at_choice, axis_of}
use Rattle.column.proofs.AtChoice.{up_to, choice-next}
use Rattle.column.proofs.forces.at_choice.Goals.{Start}
use Rattle.column.proofs.forces.at_choice.Goals as goal

module _ (axis : Axis) (forces : List FaceForces) (ks : List ℕ) where
  nothing_yet : replicate most_faces (pos 0) ≡ first_of (pos 0) most_faces (up_to
      (force_in axis) no_face_forces 0 forces ks 0)
  unfolding first_of at_choice
  nothing_yet = sym (first_of-none (pos 0) most_faces)

-- the line as it is handed on
abbrev line_of : Start → ℤ
line_of s = to_z w64 (of_z w64 s.args.line)

pub loop-i-init : goal.loop-i-init
loop-i-init c = nothing_yet (axis_of (line_of c)) c.args.forces.face c.args.alternative

pub loop-i-preserved : goal.loop-i-preserved
loop-i-preserved c =
    let at_start = (goal.at.loop-i-preserved c).Start in
    let l = c.loop-i in
    let a = c.args in
    (λ j. set (l.invariant j) l.i
    ((to_z-of_z w64 c.force_at.result (record { sfits = c.force_at.type_inv }) ∙ c.force_at.ensures) j))
    ∙ choice-next (force_in (axis_of (line_of at_start))) no_face_forces 0 a.forces.face a.alternative most_faces l.i
    (omega arith)

pub returns : goal.returns
returns c =
    let l = c.loop-i in
    let a = c.args in
    let all : l.i ≡ a.faces = omega arith in
    let line = to_z-of_z w64 a.line c.ranges.line in
    l.invariant
    ∙ (λ j. first_of (pos 0) most_faces (up_to (force_in (axis_of
    (line j))) no_face_forces 0 a.forces.face a.alternative (all j)))
