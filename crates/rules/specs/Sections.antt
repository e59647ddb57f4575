-- The sections of the sheet as data, and the fault of one line.
use Rattle.std.specs.Prelude.{ℕ, List, [], ◌∷◌, Bool, true, false, not, cond, eqb, ℤ, pos, get_or}
use Rattle.field.specs.declared.Field.{Field}
use Rattle.building.specs.declared.Spot.{Spot}
use Rattle.building.specs.Fault.{ranged, spot, Fault, fault, outside, first, first_spot, spot_of}
use Rattle.building.specs.Building.{faults}
use Rattle.rules.specs.declared.Before.{Before}
use Rattle.rules.specs.declared.FieldForm.{FieldForm}
use Rattle.rules.specs.declared.FieldForm.TheVariants as form
use Rattle.rules.specs.declared.Section.{Section}
use Rattle.rules.specs.declared.Section.TheVariants.{«V», B, W, I, P, F}
use Rattle.rules.specs.declared.Kind.{Kind}
use Rattle.rules.specs.declared.Kind.TheVariants.{Count, Entry}
use Rattle.building.specs.Year.{has_heights, face_limit}
use Rattle.entry.specs.Says.{number, letter, at, year_of, building_of, wind_of, internal_of, step_of, face_of}
use Rattle.rules.specs.Form.{in_form, first_out, number_forms}
use Rattle.rules.specs.Faults.{year_faults, wind_faults, internal_faults, step_faults, face_faults}

-- a section: its letter, and its least and, by the year, its greatest count
pub record About : Type 0 where
  pub letter : ℕ
  pub least : ℕ
  pub most : ℤ → ℕ

abbrev pub about : Section → About
about «V» = record { letter = 86; least = 1; most = λ year. 1 }
about B = record { letter = 66; least = 1; most = λ year. 1 }
about W = record { letter = 87; least = 1; most = λ year. 8 }
about I = record { letter = 73; least = 1; most = λ year. 4 }
about P = record { letter = 80; least = 1; most = λ year. 16 }
about F = record { letter = 70; least = 1; most = face_limit }

-- the sections of a sheet, in order: of one with heights, and of one without
abbrev pub sections : Bool → List Section
sections true = «V» ∷ B ∷ W ∷ I ∷ P ∷ F ∷ []
sections false = B ∷ W ∷ I ∷ F ∷ []

-- the one behind the first i
abbrev pub section_at : Bool → ℕ → Section
section_at heights i = get_or (sections heights) i «V»

-- ---- the form of a line

-- letter and count; the year; h a b density kind x; direction, speed; one coefficient; height, factor; zone, mark, the
-- height where faces have one, and the areas on x, y, z
abbrev pub forms : Bool → Kind → List FieldForm
forms heights (Count s) = form.Capital ∷ form.Count ∷ []
forms heights (Entry «V») = number_forms 1
forms heights (Entry B) = number_forms 6
forms heights (Entry W) = number_forms 2
forms heights (Entry I) = number_forms 1
forms heights (Entry P) = number_forms 2
forms heights (Entry F) = form.Capital ∷ form.Mark ∷ number_forms (cond heights 4 3)

-- ---- the faults of a line in form

-- a letter that is not the section's; a count outside its limits in that year
abbrev pub count_faults : ℤ → Section → ℕ → ℤ → List Fault
count_faults year s l n =
    fault 1 (not (eqb l (about s).letter)) (spot 1)
    ∷ outside 2 (ranged 2 (pos (about s).least) (pos ((about s).most year))) n
    ∷ []

-- by what the lines before it say
abbrev pub faults_of : Kind → Before → List Field → List Fault
faults_of (Count s) b fs = count_faults b.year s (letter (at fs 0)) (number (at fs 1))
faults_of (Entry «V») b fs = year_faults (year_of fs)
faults_of (Entry B) b fs = faults b.year (building_of fs)
faults_of (Entry W) b fs = wind_faults b.building (wind_of fs)
faults_of (Entry I) b fs = internal_faults (internal_of fs)
faults_of (Entry P) b fs = step_faults b.highest (step_of fs)
faults_of (Entry F) b fs = face_faults b (face_of (has_heights b.year) fs)

-- the form that a line must have, by what the lines before it say
abbrev pub forms_by : Before → Kind → List FieldForm
forms_by b k = forms (has_heights b.year) k

-- the lowest fault of a line, 0 where there is none: one out of form has 1
unfoldable pub line_fault : Kind → Before → List Field → ℕ
line_fault k b fs = cond (in_form (forms_by b k) fs) (first (faults_of k b fs)) 1

-- where a line has it: in the first field that is not in form, or where the first fault that is found lies
unfoldable pub line_spot : Kind → Before → List Field → Spot
line_spot k b fs =
    cond (in_form (forms_by b k) fs) (first_spot (faults_of k b fs)) (spot_of (first_out (forms_by b k) fs)
    (faults_of k b fs))
