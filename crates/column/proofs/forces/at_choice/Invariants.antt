-- `forces::at_choice` meets its contract: a pass over the faces, each force behind those before it.
use mathlib.Core.Path.{◌≡◌}
use lib.IntN.{pos}
use Rattle.whole.specs.Lists.{first_of}
use Rattle.job.specs.Carried.{most_faces}
use Rattle.worst.specs.PerFace.{no_face_forces}
use Rattle.worst.specs.Rows.{force_in}
use Rattle.column.specs.Column.{axis_of}
use Rattle.column.proofs.AtChoice.{up_to}
use Rattle.column.proofs.forces.at_choice.Given as goal

abbrev pub invariant-loop-i : goal.invariant-loop-i
invariant-loop-i l =
    l.all.face ≡ first_of (pos 0) most_faces
    (up_to (force_in (axis_of l.line)) no_face_forces 0 l.forces.face l.alternative l.i)
