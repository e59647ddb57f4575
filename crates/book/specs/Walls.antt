-- Walls, table 3.2.2.2.1, in hundredths.
use Rattle.std.specs.Prelude.{cond, ◌&&◌, List, [], ◌∷◌, map, ℕ, ℤ}
use Rattle.building.specs.declared.Sizes.{Sizes}
use Rattle.book.specs.Number.{p, m}
use Rattle.building.specs.Ratio.{Limit, ◌÷◌, up_to}
use Rattle.book.specs.Row.{Row}
use Rattle.book.specs.Line.{Way, on}

-- a row holds for h/b and a/b up to its limits
pub record Wall : Type 0 where
  pub high : Limit
  pub long : Limit
  pub row : Row

abbrev pub wall : ℕ → Limit → Limit → List ℤ → Wall
wall number high long cells = record { high = high; long = long; row = record { number = number; cells = cells } }

abbrev pub no_wall : Wall
no_wall = wall 0 (0 ÷ 0) (0 ÷ 0) []

-- row; h/b to, a/b to; wind 0: A B C D; wind 90: A B C D; local
abbrev pub walls : List Wall
walls =
    wall 1 (1 ÷ 2) (3 ÷ 2) (p 70 ∷ m 20 ∷ m 50 ∷ m 50 ∷ m 50 ∷ m 50 ∷ p 70 ∷ m 20 ∷ m 80 ∷ [])
    ∷ wall 2 (1 ÷ 2) (4 ÷ 1) (p 70 ∷ m 25 ∷ m 60 ∷ m 60 ∷ m 50 ∷ m 50 ∷ p 70 ∷ m 10 ∷ m 100 ∷ [])
    ∷ wall 3 (3 ÷ 2) (3 ÷ 2) (p 70 ∷ m 25 ∷ m 60 ∷ m 60 ∷ m 60 ∷ m 60 ∷ p 70 ∷ m 25 ∷ m 110 ∷ [])
    ∷ wall 4 (3 ÷ 2) (4 ÷ 1) (p 70 ∷ m 30 ∷ m 70 ∷ m 70 ∷ m 50 ∷ m 50 ∷ p 70 ∷ m 10 ∷ m 110 ∷ [])
    ∷ wall 5 (6 ÷ 1) (3 ÷ 2) (p 80 ∷ m 25 ∷ m 80 ∷ m 80 ∷ m 80 ∷ m 80 ∷ p 80 ∷ m 25 ∷ m 120 ∷ [])
    ∷ wall 6 (6 ÷ 1) (4 ÷ 1) (p 70 ∷ m 40 ∷ m 70 ∷ m 70 ∷ m 50 ∷ m 50 ∷ p 80 ∷ m 10 ∷ m 120 ∷ [])
    ∷ []

unfoldable pub wall_table : List Row
wall_table = map (λ (r : Wall). r.row) walls

-- the first row, in the book's order, up to whose limits h/b and a/b come
abbrev pub first_wall : List Wall → ℕ → ℕ → ℕ → Wall
first_wall [] h a b = no_wall
first_wall (r ∷ rows) h a b = cond (up_to h b r.high && up_to a b r.long) r (first_wall rows h a b)

unfoldable pub wall_row : ℕ → ℕ → ℕ → Row
wall_row h a b = (first_wall walls h a b).row

-- nothing lies between two rows of walls
abbrev pub wall_way : Sizes → Way
wall_way s = on (wall_row s.h s.a s.b)
