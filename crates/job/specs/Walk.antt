-- Reading lines of fields: each against the line that is called for, one by one.
use Rattle.std.specs.Prelude.{ℕ, zero, suc, ◌+◌, List, [], ◌∷◌, ◌++◌, map, Bool, false, cond, eqb}
use Rattle.verdict.specs.declared.Verdict.{Verdict}
use Rattle.verdict.specs.Verdict.{accepted, refusal}
use Rattle.field.specs.declared.Field.{Field}
use Rattle.rules.specs.declared.Section.{Section}
use Rattle.rules.specs.declared.Section.TheVariants.{«V», B, W, I, P, F}
use Rattle.rules.specs.declared.Kind.{Kind}
use Rattle.rules.specs.declared.Kind.TheVariants.{Count, Entry}
use Rattle.building.specs.Year.{has_heights}
use Rattle.entry.specs.Says.{letter, size, at, year_of, building_of, wind_of, internal_of, step_of, face_of}
use Rattle.job.specs.declared.Job.{Job}
use Rattle.job.specs.Carried.{Carried, nothing, with_year, with_building, with_winds, with_internals, with_profile}
use Rattle.job.specs.Carried.{with_faces, before, carried}
use Rattle.rules.specs.Sections.{about, sections, line_fault}
use Rattle.job.specs.Lines.{lines_of}

-- the lines that a line in order calls for: a count calls for as many entries
abbrev pub entries : Section → ℕ → List Kind
entries s zero = []
entries s (suc n) = Entry s ∷ entries s n

abbrev pub calls : Kind → List Field → List Kind
calls (Count s) fs = entries s (size (at fs 1))
calls (Entry s) fs = []

-- what is carried with this line added
abbrev pub learn : Kind → List Field → Carried → Carried
learn (Count s) fs c = c
learn (Entry «V») fs c = with_year (year_of fs) c
learn (Entry B) fs c = with_building (building_of fs) c
learn (Entry W) fs c = with_winds (c.winds ++ (wind_of fs ∷ [])) c
learn (Entry I) fs c = with_internals (c.internals ++ (internal_of fs ∷ [])) c
learn (Entry P) fs c = with_profile (c.profile ++ (step_of fs ∷ [])) c
learn (Entry F) fs c = with_faces (c.faces ++ (face_of (has_heights c.year) fs ∷ [])) c

-- accepted with what was read, or refused
pub data Reading : Type 0 where
  Accepted : Carried → Reading
  Refused : Verdict → Reading

-- the number and line that a reading answers
abbrev pub verdict : Reading → Verdict
verdict (Accepted c) = accepted
verdict (Refused v) = v

-- the lines from number `line` on against the lines still called for, with what was read before them: a line missing
-- or extra is 1
unfoldable pub walk : List Kind → Carried → ℕ → List (List Field) → Reading
walk [] c line [] = Accepted c
walk [] c line (x ∷ xs) = Refused (refusal 1 line)
walk (k ∷ ks) c line [] = Refused (refusal 1 line)
walk (k ∷ ks) c line (x ∷ xs) =
    cond (eqb (line_fault k (before c) x) 0)
    (walk (calls k x ++ ks) (learn k x c) (line + 1) xs)
    (Refused (refusal (line_fault k (before c) x) line))

-- lines that open with the letter V are of a sheet with heights
abbrev pub opening : List (List Field) → Bool
opening [] = false
opening (x ∷ xs) = eqb (letter (at x 0)) (about «V»).letter

-- the counts of the sections, in order
abbrev pub sheet : Bool → List Kind
sheet heights = map Count (sections heights)

unfoldable pub read_lines : List (List Field) → Reading
read_lines xs = walk (sheet (opening xs)) nothing 1 xs

-- a job given as a record gets the number and line that its sheet would get
unfoldable pub judged : Job → Reading
judged j = read_lines (lines_of (carried j))
