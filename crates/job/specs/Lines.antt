-- The lines of fields of what a sheet carries: its sections in order, each after its count.
use Rattle.std.specs.Prelude.{List, [], ◌∷◌, ◌++◌, map, ℕ, ◌+◌, length, Bool}
use Rattle.field.specs.declared.Field.{Field}
use Rattle.field.specs.declared.Field.TheVariants.{Plus, Letter}
use Rattle.rules.specs.declared.Section.{Section}
use Rattle.rules.specs.declared.Section.TheVariants.{«V», B, W, I, P, F}
use Rattle.job.specs.Carried.{Carried, with_faces}
use Rattle.building.specs.Year.{has_heights}
use Rattle.entry_written.specs.Fields.{year_fields, building_fields, wind_fields, internal_fields, step_fields}
use Rattle.entry_written.specs.Fields.{face_fields}
use Rattle.rules.specs.Sections.{about, sections}

-- the entries of each section as fields
abbrev pub entries_of : Carried → Section → List (List Field)
entries_of c «V» = year_fields c.year ∷ []
entries_of c B = building_fields c.building ∷ []
entries_of c W = map wind_fields c.winds
entries_of c I = map internal_fields c.internals
entries_of c P = map step_fields c.profile
entries_of c F = map (face_fields (has_heights c.year)) c.faces

-- a section: its letter and the number of its entries, then the entries
abbrev pub section_of : Section → List (List Field) → List (List Field)
section_of s entries = (Letter (about s).letter ∷ Plus (length entries) ∷ []) ∷ entries

-- sections with these entries, one after the other
abbrev pub sections_of : (Section → List (List Field)) → List Section → List (List Field)
sections_of es [] = []
sections_of es (s ∷ ss) = section_of s (es s) ++ sections_of es ss

-- the line on which the count of a section stands, by the sections before it
abbrev pub line_behind : (Section → List (List Field)) → List Section → ℕ
line_behind es [] = 1
line_behind es (s ∷ ss) = 1 + length (es s) + line_behind es ss

-- the lines of a sheet, with heights or without, with these entries in its sections
abbrev pub sheet_of : Bool → (Section → List (List Field)) → List (List Field)
sheet_of heights es = sections_of es (sections heights)

unfoldable pub lines_of : Carried → List (List Field)
lines_of c = sheet_of (has_heights c.year) (entries_of c)

-- the line on which face k stands, from 1: behind all lines of the same sheet without faces
abbrev pub face_line : Carried → ℕ → ℕ
face_line c k = length (lines_of (with_faces [] c)) + k
