-- `faces::none` meets its contract: the face that is all zero, wherever there is room.
use mathlib.Core.Path.{ap}
use lib.ListN.{replicate}
use Rattle.entry.specs.declared.Face.{Face}
use Rattle.job.specs.declared.Faces.{Faces}
use Rattle.job.specs.Carried.{most_faces}
use Rattle.column.proofs.faces.none.Goals as goal

pub returns : goal.returns
returns c = ap {B = Faces} (λ (f : Face). record { count = 0; entry = replicate most_faces f }) c.no_face-entry.ensures
