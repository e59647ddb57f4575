-- A row of a printed table, and the number at which a row of a roof's table stands.
use Rattle.std.specs.Prelude.{cond, List, [], ◌∷◌, ◌++◌, map, ℕ, ℤ, pos, eqb, get_or}

-- its number, from 1 in the book's order, and its hundredths, column by column
pub record Row : Type 0 where
  pub number : ℕ
  pub cells : List ℤ

abbrev pub no_row : Row
no_row = record { number = 0; cells = [] }

abbrev pub hundredths : Row → ℕ → ℤ
hundredths r col = get_or r.cells col (pos 0)

-- the row of that number
abbrev pub row_numbered : ℕ → List Row → Row
row_numbered n [] = no_row
row_numbered n (r ∷ rows) = cond (eqb r.number n) r (row_numbered n rows)

-- a row at the number at which it stands: tenths of a degree, or thousandths of h
pub record Standing : Type 0 where
  pub at : ℕ
  pub row : Row

abbrev pub row : ℕ → ℕ → ℤ → ℤ → ℤ → ℤ → Standing
row number at v w y z = record { at = at; row = record { number = number; cells = v ∷ w ∷ y ∷ z ∷ [] } }

-- the rows of a table, part by part
abbrev pub rows_of : List (List Standing) → List Row
rows_of [] = []
rows_of (part ∷ parts) = map (λ (r : Standing). r.row) part ++ rows_of parts
