-- A job whose faces stand as numbers in a lent list. Only contracts of private functions cite it.
use Rattle.std.specs.Prelude.{List, ℕ, ◌*◌, ◌≤◌, ℤ, length}
use Rattle.entry.specs.Flat.{per_face, faces_in}
use Rattle.job.specs.declared.Job.{Job}
use Rattle.job.specs.declared.Setting.{Setting}
use Rattle.job.specs.declared.Faces.{Faces}
use Rattle.job.specs.Setting.{record_with}
use Rattle.worst.specs.declared.speeds.Factor.{Factor}

abbrev pub faces_by : ℕ → List ℤ → Faces
faces_by n flat = record { count = n; entry = faces_in n flat }

abbrev pub job_by : Setting → ℕ → List ℤ → Job
job_by s n flat = record_with s (faces_by n flat)

-- all n stand there
pub record Numbered (n : ℕ) (flat : List ℤ) : Type 0 where
  pub few : n ≤ 240
  pub stand : per_face * n ≤ length flat

-- and there is room for their factors
pub record Lent (n : ℕ) (flat : List ℤ) (factors : List Factor) : Type 0 where
  pub numbered : Numbered n flat
  pub room : n ≤ length factors
