-- One observation: the sector of its direction, the Beaufort number of its speed, its cell, and what a line says.
use Rattle.std.specs.Prelude.{ℕ, suc, ◌+◌, ◌*◌, ◌/◌, ◌%◌, cond, List, [], ◌∷◌, leb}
use Rattle.field.specs.declared.Field.{Field}
use Rattle.field.specs.declared.Field.TheVariants.{Bad, Plus, Minus, Letter, Dash}
use Rattle.std.specs.Prelude.{Result, Ok, Err}
use Rattle.rose.specs.declared.Misread.{Misread}
use Rattle.rose.specs.declared.Misread.TheVariants.{OutOfForm, OutOfRange}

-- Of 16 sectors the first is centred on north, and each reaches 11.25 degrees to either side: 45 quarters of a degree.
abbrev pub sector : ℕ → ℕ
sector direction = (4 * direction + 45) / 90 % 16

-- table 2.2.2.2.1: the greatest speeds of the Beaufort numbers 0 to 11, in tenths of m/s
unfoldable pub top_speeds : List ℕ
top_speeds = 2 ∷ 15 ∷ 33 ∷ 54 ∷ 79 ∷ 107 ∷ 138 ∷ 171 ∷ 207 ∷ 244 ∷ 284 ∷ 326 ∷ []

-- how many of the first of them a speed is above
unfoldable pub exceeded : ℕ → List ℕ → ℕ
exceeded speed [] = 0
exceeded speed (t ∷ ts) = cond (leb speed t) 0 (suc (exceeded speed ts))

unfoldable pub beaufort : ℕ → ℕ
beaufort speed = exceeded speed top_speeds

-- the cells stand by sector, and in it by Beaufort number
abbrev pub cell_number : ℕ → ℕ → ℕ
cell_number direction speed = 13 * sector direction + beaufort speed

-- ---- what a line says

-- a number or a line says a number, which of a line is its cell, or why it says none
abbrev pub Said : Type 0
Said = Result ℕ Misread

-- a field as a number from 0 to top
abbrev pub field_says : ℕ → Field → Said
field_says top Bad = Err OutOfForm
field_says top (Plus n) = cond (leb n top) (Ok n) (Err OutOfRange)
field_says top (Minus n) = Err OutOfRange
field_says top (Letter b) = Err OutOfForm
field_says top Dash = Err OutOfForm

-- the cell of a direction and a speed; of two faults the lower
abbrev pub together : Said → Said → Said
together (Err OutOfForm) speed = Err OutOfForm
together (Err OutOfRange) (Err OutOfForm) = Err OutOfForm
together (Err OutOfRange) (Err OutOfRange) = Err OutOfRange
together (Err OutOfRange) (Ok v) = Err OutOfRange
together (Ok d) (Err OutOfForm) = Err OutOfForm
together (Ok d) (Err OutOfRange) = Err OutOfRange
together (Ok d) (Ok v) = Ok (cell_number d v)

-- a direction, 0 to 359 whole degrees, and a speed, 0 to 1000 tenths of m/s
abbrev pub line_says : List Field → Said
line_says [] = Err OutOfForm
line_says (d ∷ []) = Err OutOfForm
line_says (d ∷ v ∷ []) = together (field_says 359 d) (field_says 1000 v)
line_says (d ∷ v ∷ f ∷ fs) = Err OutOfForm

-- the cell that it says, or 0
abbrev pub cell_in : Said → ℕ
cell_in (Err OutOfForm) = 0
cell_in (Err OutOfRange) = 0
cell_in (Ok k) = k
