-- The forces of the faces under one wind and one internal coefficient, of which every case there takes one for each
-- face.
use Rattle.std.specs.Prelude.{Bool, cond, ◌&&◌, List, [], map, ℕ, leb, ℤ, pos, length}
use Rattle.whole.specs.Lists.{first_of}
use Rattle.entry.specs.declared.Wind.{Wind}
use Rattle.entry.specs.declared.Face.{Face}
use Rattle.job.specs.Carried.{most_faces}
use Rattle.job.specs.Walk.{Reading, Accepted, Refused}
use Rattle.worst.specs.declared.Axis.TheVariants.{X, Y, Z}
use Rattle.worst.specs.declared.AxisForces.{AxisForces}
use Rattle.worst.specs.declared.FaceForces.{FaceForces}
use Rattle.worst.specs.declared.CellForces.{CellForces}
use Rattle.worst.specs.Forces.{Given, alternatives, force, wind_at, internal_at}
use Rattle.worst.specs.Worst.{given}

-- of one face at its alternative k, on each axis
abbrev pub force_of : Given → Wind → ℤ → Face → ℕ → AxisForces
force_of g w internal f k =
    record { x = force X g w internal f k; y = force Y g w internal f k; z = force Z g w internal f k }

-- how many alternatives it has, and the forces at the first and at the last of them
unfoldable pub face_forces : Given → Wind → ℤ → Face → FaceForces
face_forces g w internal f =
    let n = length (alternatives g w f) in
    record { count = n; first = force_of g w internal f 1; last = force_of g w internal f n }

-- zeros
abbrev pub no_force : AxisForces
no_force = record { x = pos 0; y = pos 0; z = pos 0 }

abbrev pub no_face_forces : FaceForces
no_face_forces = record { count = 0; first = no_force; last = no_force }

-- of the faces in order, and zeros behind them
abbrev pub forces_up_to : List FaceForces → CellForces
forces_up_to all = record { face = first_of no_face_forces most_faces all }

abbrev pub cell_forces : Given → Wind → ℤ → CellForces
cell_forces g w internal = forces_up_to (map (face_forces g w internal) g.faces)

-- there is one of that number, from 1
abbrev pub numbered : {A : Type 0} → List A → ℕ → Bool
numbered l k = leb 1 k && leb k (length l)

-- zeros where there is no wind or no internal coefficient of a number, or no job that is accepted
abbrev pub forces_at : Given → ℕ → ℕ → CellForces
forces_at g w i =
    cond (numbered g.winds w && numbered g.internals i) (cell_forces g (wind_at g w) (internal_at g i))
    (forces_up_to [])

abbrev pub forces_in : ℕ → ℕ → Reading → CellForces
forces_in w i (Accepted c) = forces_at (given c) w i
forces_in w i (Refused v) = forces_up_to []
