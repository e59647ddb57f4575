-- Faces added, replaced and taken out, and a record that holds them in place.
use Rattle.std.specs.Prelude.{List, [], ◌∷◌, ◌++◌, ℕ, ◌-◌, length, take, drop}
use Rattle.whole.specs.Lists.{take_out}
use Rattle.entry.specs.declared.Face.{Face}
use Rattle.job.specs.declared.Faces.{Faces}
use Rattle.job.specs.Carried.{no_face}

-- ---- the faces themselves, counted from 1; one is taken out by `take_out`

-- at the end
abbrev pub add : Face → List Face → List Face
add f fs = fs ++ (f ∷ [])

-- face k
abbrev pub replace : ℕ → Face → List Face → List Face
replace k f fs = take (k - 1) fs ++ (f ∷ drop k fs)

-- ---- in a record: the faces that count, and the entries behind them

abbrev pub faces_held : Faces → List Face
faces_held r = take r.count r.entry

abbrev pub behind : Faces → List Face
behind r = drop r.count r.entry

abbrev pub holding : List Face → List Face → Faces
holding fs rest = record { count = length fs; entry = fs ++ rest }

-- the new face takes the first entry behind; a face that is taken out leaves one more, which is zero
abbrev pub added : Face → Faces → Faces
added f r = holding (add f (faces_held r)) (drop 1 (behind r))

abbrev pub replaced : ℕ → Face → Faces → Faces
replaced k f r = holding (replace k f (faces_held r)) (behind r)

abbrev pub taken_out : ℕ → Faces → Faces
taken_out k r = holding (take_out k (faces_held r)) (no_face ∷ behind r)
