-- The report of what a sheet carries, and what the program `totals` writes for a text: the report, or `refused`,
-- number and line.
use Rattle.std.specs.Prelude.{ℕ, List, [], ◌∷◌, ◌++◌}
use Rattle.verdict.specs.declared.Verdict.{Verdict}
use Rattle.job.specs.Carried.{Carried}
use Rattle.job.specs.Walk.{Reading, Accepted, Refused}
use Rattle.worst.specs.declared.Stored.{Stored}
use Rattle.worst.specs.Worst.{six_extremes}
use Rattle.worst.specs.Stored.{six_by, telling}
use Rattle.report.specs.Lines.{spaced, six_text}

unfoldable pub report_text : Carried → List ℕ
report_text c = six_text c.year (six_extremes c)

-- the six lines that stored sums tell, where a job of its year can have such sums
unfoldable pub stored_text : Stored → Carried → List ℕ
stored_text t c = six_text c.year (six_by (telling t c) c)

-- "refused"
abbrev pub refused : List ℕ
refused = 114 ∷ 101 ∷ 102 ∷ 117 ∷ 115 ∷ 101 ∷ 100 ∷ []

unfoldable pub refused_text : Verdict → List ℕ
refused_text v = refused ++ (spaced (v.number ∷ v.line ∷ []) ++ (10 ∷ []))

abbrev pub totals_text : Reading → List ℕ
totals_text (Accepted c) = report_text c
totals_text (Refused v) = refused_text v
