-- Gable roofs, table 3.2.2.2.2: the rows' numbers, slopes in tenths of a degree, and the hundredths of wind 0 E,F;
-- wind 0 G,H; wind 90 E,G; wind 90 F,H.
use Rattle.std.specs.Prelude.{List, [], ◌∷◌, ℕ}
use Rattle.book.specs.Number.{p, m}
use Rattle.building.specs.Ratio.{Limit, ◌÷◌, first_up_to}
use Rattle.book.specs.Row.{Row, Standing, row, rows_of}

-- h/b to 1/2
abbrev pub low : List Standing
low =
    row 1 0 (m 80) (m 40) (m 80) (m 40)
    ∷ row 2 50 (m 90) (m 40) (m 80) (m 40)
    ∷ row 3 100 (m 120) (m 40) (m 80) (m 60)
    ∷ row 4 200 (m 40) (m 40) (m 70) (m 60)
    ∷ row 5 300 (p 0) (m 40) (m 70) (m 60)
    ∷ row 6 450 (p 30) (m 50) (m 70) (m 60)
    ∷ row 7 600 (p 70) (m 60) (m 70) (m 60)
    ∷ []

-- h/b over 1/2, to 3/2
abbrev pub middle : List Standing
middle =
    row 8 0 (m 80) (m 60) (m 100) (m 60)
    ∷ row 9 50 (m 90) (m 60) (m 90) (m 60)
    ∷ row 10 100 (m 110) (m 60) (m 80) (m 60)
    ∷ row 11 200 (m 70) (m 50) (m 80) (m 60)
    ∷ row 12 300 (m 20) (m 50) (m 80) (m 80)
    ∷ row 13 450 (p 20) (m 50) (m 80) (m 80)
    ∷ row 14 600 (p 60) (m 50) (m 80) (m 80)
    ∷ []

-- h/b over 3/2, to 6: rows at 40 and 50 degrees, and none at 45
abbrev pub tall : List Standing
tall =
    row 15 0 (m 70) (m 60) (m 90) (m 70)
    ∷ row 16 50 (m 70) (m 60) (m 80) (m 80)
    ∷ row 17 100 (m 70) (m 60) (m 80) (m 80)
    ∷ row 18 200 (m 80) (m 60) (m 80) (m 80)
    ∷ row 19 300 (m 100) (m 50) (m 80) (m 70)
    ∷ row 20 400 (m 20) (m 50) (m 80) (m 70)
    ∷ row 21 500 (p 20) (m 50) (m 80) (m 70)
    ∷ row 22 600 (p 50) (m 50) (m 80) (m 70)
    ∷ []

-- the table: its parts, and their limits of h/b
abbrev pub gable_parts : List (List Standing)
gable_parts = low ∷ middle ∷ tall ∷ []

unfoldable pub gable_table : List Row
gable_table = rows_of gable_parts

abbrev pub heights : List Limit
heights = (1 ÷ 2) ∷ (3 ÷ 2) ∷ (6 ÷ 1) ∷ []

unfoldable pub block_of : ℕ → ℕ → ℕ
block_of h b = first_up_to 0 heights h b
