-- The faces of a list as a job's record holds them.
use Rattle.std.specs.Prelude.{List, ◌+◌, min, length}
use Rattle.whole.specs.Lists.{first_of}
use Rattle.entry.specs.declared.Face.{Face}
use Rattle.job.specs.declared.Faces.{Faces}
use Rattle.job.specs.Carried.{no_face, most_faces}

-- the first of them, and how many there are: one more than there is room for, where there are more
unfoldable pub listed : List Face → Faces
listed fs = record { count = min (length fs) (most_faces + 1); entry = first_of no_face most_faces fs }
