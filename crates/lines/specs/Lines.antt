-- A text as lines of fields, and the text of such lines: each line ends in LF, and one space stands between fields.
use Rattle.std.specs.Prelude.{ℕ, ◌<◌, ◌≤◌, ◌^◌, cond, List, [], ◌∷◌, ◌++◌, map, eqb, length}
use Rattle.whole.specs.Lists.{Every}
use Rattle.field.specs.declared.Field.{Field}
use Rattle.field.specs.declared.Field.TheVariants.{Bad, Plus, Minus, Letter, Dash}
use Rattle.whole.specs.Digits.{digits}
use Rattle.field.specs.Field.{field_from}

-- ---- from bytes to fields

abbrev pub onto : ℕ → List (List ℕ) → List (List ℕ)
onto x [] = (x ∷ []) ∷ []
onto x (p ∷ ps) = (x ∷ p) ∷ ps

-- the parts of a text before, between and behind its bytes b
unfoldable pub split : ℕ → List ℕ → List (List ℕ)
split b [] = [] ∷ []
split b (x ∷ xs) = cond (eqb x b) ([] ∷ split b xs) (onto x (split b xs))

-- the fields of a line stand between its spaces
unfoldable pub fields_of : List ℕ → List Field
fields_of line = map field_from (split 32 line)

-- What stands behind the last LF, if it is something, is a line that is not ended and so out of form.
unfoldable pub lines_from : List (List ℕ) → List (List Field)
lines_from [] = []
lines_from ([] ∷ []) = []
lines_from ((b ∷ l) ∷ []) = (Bad ∷ []) ∷ []
lines_from (l ∷ m ∷ ls) = fields_of l ∷ lines_from (m ∷ ls)

-- a text as lines of fields
unfoldable pub lines_in : List ℕ → List (List Field)
lines_in s = lines_from (split 10 s)

-- ---- from fields to bytes

-- a field out of form has no text
abbrev pub field_text : Field → List ℕ
field_text Bad = []
field_text (Plus n) = digits n
field_text (Minus n) = 45 ∷ digits n
field_text (Letter b) = b ∷ []
field_text Dash = 45 ∷ []

-- one space between fields
unfoldable pub line_text : List Field → List ℕ
line_text [] = []
line_text (f ∷ []) = field_text f
line_text (f ∷ g ∷ fs) = field_text f ++ (32 ∷ line_text (g ∷ fs))

-- each line ends in LF
unfoldable pub text_of_lines : List (List Field) → List ℕ
text_of_lines [] = []
text_of_lines (x ∷ xs) = line_text x ++ (10 ∷ text_of_lines xs)

-- ---- which fields a text can have

abbrev pub InForm : Field → Type 0
InForm Bad = ⊥
InForm (Plus n) = n < 10 ^ 7
InForm (Minus n) = (0 < n) × (n < 10 ^ 7)
InForm (Letter b) = (65 ≤ b) × (b ≤ 90)
InForm Dash = Unit

-- lines of at least one field, each in form
abbrev pub LinesInForm : List (List Field) → Type 0
LinesInForm xs = Every (λ (x : List Field). (0 < length x) × Every InForm x) xs

abbrev pub NotBad : Field → Type 0
NotBad Bad = ⊥
NotBad (Plus n) = Unit
NotBad (Minus n) = Unit
NotBad (Letter b) = Unit
NotBad Dash = Unit
