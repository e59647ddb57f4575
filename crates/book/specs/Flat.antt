-- Flat roofs, table 3.2.2.2.4: the rows' numbers, the numbers at which they stand, and the hundredths of E, F, L1,
-- L2. F is printed with both signs.
use Rattle.std.specs.Prelude.{List, [], ◌∷◌, ℕ}
use Rattle.book.specs.Number.{p, m}
use Rattle.book.specs.Row.{Row, Standing, row, rows_of}

-- straight eaves: one row
abbrev pub eaves : ℕ → Standing
eaves at = row 1 at (m 70) (p 20) (m 250) (m 200)

abbrev pub straight : List Standing
straight = eaves 0 ∷ []

-- with parapet: x/h in thousandths
abbrev pub parapet : List Standing
parapet =
    row 2 25 (m 70) (p 20) (m 220) (m 180)
    ∷ row 3 50 (m 70) (p 20) (m 200) (m 160)
    ∷ row 4 100 (m 70) (p 20) (m 180) (m 140)
    ∷ []

-- curved eaves: x/h in thousandths
abbrev pub curved : List Standing
curved =
    row 5 50 (m 40) (p 20) (m 150) (m 180)
    ∷ row 6 100 (m 30) (p 20) (m 120) (m 140)
    ∷ row 7 200 (m 30) (p 20) (m 80) (m 80)
    ∷ []

-- with mansard: the angle in tenths of a degree, and straight eaves at 90 degrees
abbrev pub mansard : List Standing
mansard =
    row 8 300 (m 30) (p 20) (m 150) (m 150)
    ∷ row 9 450 (m 40) (p 20) (m 180) (m 190)
    ∷ row 10 600 (m 50) (p 20) (m 190) (m 190)
    ∷ eaves 900
    ∷ []

-- the table: its parts, for kinds 2 to 5
abbrev pub flat_parts : List (List Standing)
flat_parts = straight ∷ parapet ∷ curved ∷ mansard ∷ []

unfoldable pub flat_table : List Row
flat_table = rows_of flat_parts
