-- The newton column of a job for one line of its report.
use Rattle.std.specs.Prelude.{cond, List, [], ◌∷◌, eqb, ℤ, pos}
use Rattle.std.specs.Int.Signed.{lt_z}
use Rattle.verdict.specs.declared.Verdict.{Verdict}
use Rattle.page.specs.Writing.{buffer_after}
use Rattle.job.specs.Walk.{Reading, Accepted, Refused}
use Rattle.worst.specs.declared.Axis.{Axis}
use Rattle.worst.specs.declared.Axis.TheVariants.{X, Y, Z}
use Rattle.worst.specs.Forces.{Given, force, wind_at, internal_at}
use Rattle.worst.specs.Worst.{given}
use Rattle.answers.specs.declared.Extreme.{Extreme}
use Rattle.answers.specs.Answers.{host_total}
use Rattle.sharing.specs.Column.{column, sharing}

-- the force of each face at its alternative
unfoldable pub at_choice : {F A : Type 0} → (F → A → ℤ) → List F → List A → List ℤ
at_choice force [] ks = []
at_choice force (f ∷ fs) [] = []
at_choice force (f ∷ fs) (k ∷ ks) = force f k ∷ at_choice force fs ks

-- the forces of a job's faces on an axis, in the case that is shown
abbrev pub forces_shown : Axis → Given → Extreme → List ℤ
forces_shown axis g e =
    at_choice (force axis g (wind_at g e.wind) (internal_at g e.internal)) g.faces e.alternative

-- lines 1 and 2 of the report are of x, 3 and 4 of y, 5 and 6 of z
abbrev pub axis_of : ℤ → Axis
axis_of line = cond (lt_z line (pos 3)) X (cond (lt_z line (pos 5)) Y Z)

-- of three numbers, one for each axis
abbrev pub number_on : Axis → ℤ → ℤ → ℤ → ℤ
number_on X x y z = x
number_on Y x y z = y
number_on Z x y z = z

-- in the case of a report line
abbrev pub forces_on : ℤ → Reading → List ℤ
forces_on line (Accepted c) = forces_shown (axis_of line) (given c) (host_total (Accepted c) line)
forces_on line (Refused v) = []

-- the job's own refusal, then 3 for a report line other than 1 to 6, then 7 for a list that is shorter than the faces
unfoldable pub column_verdict : Reading → ℤ → List ℤ → Verdict
column_verdict r line old =
    let v = (host_total r line).verdict in
    cond (eqb v.number 0) (sharing (forces_on line r) old) v

-- what the list then holds: the column and, past the last face, what stood there; all as it was where it is refused
unfoldable pub column_after : Reading → ℤ → List ℤ → List ℤ
column_after r line old =
    cond (eqb (host_total r line).verdict.number 0) (buffer_after (column (forces_on line r)) old) old
