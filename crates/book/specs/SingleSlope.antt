-- Single slopes, table 3.2.2.2.3: the rows' numbers, slopes in tenths of a degree, and the hundredths of wind 0 E,F and
-- G,H; wind 45 E,F and G,H; wind 90 E,G and F,H; wind 135 E,F and G,H; wind 180 E,F and G,H.
use Rattle.std.specs.Prelude.{List, [], ◌∷◌, ℕ, ℤ}
use Rattle.book.specs.Number.{p, m}
use Rattle.book.specs.Row.{Row, Standing, rows_of}

abbrev pub slope : ℕ → ℕ → List ℤ → Standing
slope number at cells = record { at = at; row = record { number = number; cells = cells } }

-- the first row is that of 5 to 10 degrees: it stands at 10, and up to there a slope lies on it
abbrev pub single_slope : List Standing
single_slope =
    slope 1 100 (m 100 ∷ m 50 ∷ m 100 ∷ m 90 ∷ m 100 ∷ m 50 ∷ m 90 ∷ m 100 ∷ m 50 ∷ m 100 ∷ [])
    ∷ slope 2 150 (m 90 ∷ m 50 ∷ m 100 ∷ m 70 ∷ m 100 ∷ m 50 ∷ m 60 ∷ m 100 ∷ m 30 ∷ m 100 ∷ [])
    ∷ slope 3 200 (m 80 ∷ m 50 ∷ m 100 ∷ m 60 ∷ m 90 ∷ m 50 ∷ m 50 ∷ m 100 ∷ m 20 ∷ m 100 ∷ [])
    ∷ slope 4 250 (m 70 ∷ m 50 ∷ m 100 ∷ m 60 ∷ m 80 ∷ m 50 ∷ m 30 ∷ m 90 ∷ m 10 ∷ m 90 ∷ [])
    ∷ slope 5 300 (m 50 ∷ m 50 ∷ m 100 ∷ m 60 ∷ m 80 ∷ m 50 ∷ m 10 ∷ m 60 ∷ p 0 ∷ m 60 ∷ [])
    ∷ []

unfoldable pub single_table : List Row
single_table = rows_of (single_slope ∷ [])
