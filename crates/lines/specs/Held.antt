-- How a line is held: up to six fields and the place after its LF. A line with more, or with no LF, is held as no
-- line.
use Rattle.std.specs.Prelude.{ℕ, suc, ◌+◌, min, cond, List, [], ◌∷◌, map, leb, eqb, length, take, drop, replicate}
use Rattle.std.proofs.lemmas.List.Edits.{sets}
use Rattle.field.specs.declared.Field.{Field}
use Rattle.field.specs.declared.Field.TheVariants.{Bad}
use Rattle.lines.specs.declared.Slot.{Slot}
use Rattle.lines.specs.declared.Line.{Line}
use Rattle.lines.specs.Lines.{split, fields_of}

abbrev pub slot : Field → Slot
slot f = record { field = f }

abbrev pub blank : List Slot
blank = replicate 6 (slot Bad)

abbrev pub no_line : Line
no_line = record { count = 0; next = 0; fields = blank }

unfoldable pub held_line : ℕ → List Field → Line
held_line next fs =
    cond (leb (length fs) 6) (record { count = length fs; next = next; fields = sets blank 0 (map slot fs) }) no_line

-- the first of the parts between LFs, if it is ended
unfoldable pub first_line : ℕ → List (List ℕ) → Line
first_line at [] = no_line
first_line at (l ∷ []) = no_line
first_line at (l ∷ m ∷ ls) = held_line (at + length l + 1) (fields_of l)

-- the line that begins at a place of a text
unfoldable pub line_at : List ℕ → ℕ → Line
line_at s at = first_line at (split 10 (drop at s))

-- the fields that are held
abbrev pub held : Line → List Field
held x = map (λ (s : Slot). s.field) (take x.count x.fields)

-- ---- how the code finds the end of a field: only contracts of private functions cite it

-- how many bytes stand before the first b
unfoldable pub until : ℕ → List ℕ → ℕ
until b [] = 0
until b (x ∷ xs) = cond (eqb x b) 0 (suc (until b xs))

-- how long the field is that a text begins with: it ends before a space or LF
abbrev pub field_length : List ℕ → ℕ
field_length s = min (until 32 s) (until 10 s)
