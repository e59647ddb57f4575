-- What a worksheet stores.
use Rattle.std.specs.Prelude.{◌≡◌, ℕ, ℤ}
use Rattle.job.specs.Carried.{Carried}
use Rattle.job.specs.Walk.{Accepted, judged}
use Rattle.worst.specs.declared.Side.{Side}
use Rattle.worst.specs.declared.Axis.{Axis}
use Rattle.worst.specs.Best.{NoFurther}
use Rattle.worst.specs.Cases.{Case, case_total, Permitted}
use Rattle.worst.specs.Forces.{loads}
use Rattle.worst.specs.Worst.{given}
use Rattle.worst.specs.Stored.{stored_of}
use Rattle.worksheet.specs.declared.Worksheet.{Worksheet}

-- ---- one sum

-- a permitted case with this wind and this internal coefficient
pub record InCell (c : Carried) (axis : Axis) (wind internal : ℕ) (k : Case ℕ ℕ ℕ) : Type 0 where
  pub permitted : Permitted (loads axis (given c)) k
  pub its-wind : k.wind ≡ wind
  pub its-internal : k.internal ≡ internal

-- none of them goes further, and one reaches it
pub record FurthestSum (c : Carried) (axis : Axis) (side : Side) (wind internal : ℕ) (v : ℤ) : Type 0 where
  pub bound : (k : Case ℕ ℕ ℕ) → InCell c axis wind internal k → NoFurther side (case_total (loads axis (given c)) k) v
  pub case : Case ℕ ℕ ℕ
  pub in_cell : InCell c axis wind internal case
  pub reached : case_total (loads axis (given c)) case ≡ v

-- ---- all of them

-- an accepted job, and "the stored sums equal those reckoned from the faces"
pub record TrueSums (w : Worksheet) : Type 0 where
  pub carries : Carried
  pub accepted : judged w.job ≡ Accepted carries
  pub sums : w.sums ≡ stored_of carries
