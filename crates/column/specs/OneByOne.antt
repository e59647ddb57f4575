-- Faces put into a record one by one. Only contracts of private functions cite it.
use Rattle.std.specs.Prelude.{cond, ◌+◌, ltb, set, replicate}
use Rattle.entry.specs.declared.Face.{Face}
use Rattle.job.specs.declared.Faces.{Faces}
use Rattle.job.specs.Carried.{no_face, most_faces}

abbrev pub no_faces : Faces
no_faces = record { count = 0; entry = replicate most_faces no_face }

-- one face more
abbrev pub with_one : Faces → Face → Faces
with_one fs f =
    cond (ltb fs.count most_faces)
    (record { count = fs.count + 1; entry = set fs.entry fs.count f })
    (record { count = most_faces + 1; entry = fs.entry })
