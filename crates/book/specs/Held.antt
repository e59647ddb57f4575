-- The rows of the tables as the code holds them: those of walls; those of gables and flat roofs in one table, part
-- after part; and those of single slopes. Only contracts of private functions cite it.
use Rattle.std.specs.Prelude.{cond, List, [], ◌∷◌, ◌++◌, map, ℕ, ℤ, pos, eqb, get_or, take, drop}
use Rattle.book.specs.declared.walls.Wall as coded-walls
use Rattle.book.specs.declared.roofs.Row as coded-rows
use Rattle.book.specs.declared.roofs.Slope as coded-slopes
use Rattle.book.specs.Row.{Row, Standing}
use Rattle.book.specs.Walls.{Wall}
use Rattle.book.specs.Gable.{gable_parts}
use Rattle.book.specs.Flat.{flat_parts}
use Rattle.book.specs.SingleSlope.{single_slope}

-- the limits of h/b and of a/b; wind 0, wind 90, local
abbrev pub coded_wall : Wall → coded-walls.Wall
coded_wall r =
    let h = r.high in
    let a = r.long in
    let cells = r.row.cells in
    (h.over, h.under, a.over, a.under, take 4 cells, take 4 (drop 4 cells), get_or cells 8 (pos 0))

-- those of A to D
abbrev pub wall_cells : Row → ℕ → List ℤ
wall_cells r wind = cond (eqb wind 0) (take 4 r.cells) (take 4 (drop 4 r.cells))

abbrev pub standing_in : List (List Standing) → List Standing
standing_in [] = []
standing_in (part ∷ parts) = part ++ standing_in parts

-- a row's number, the number at which it stands, and its hundredths
abbrev pub coded_row : Standing → coded-rows.Row
coded_row s = (s.row.number, s.at, s.row.cells)

abbrev pub held_row : ℕ → coded-rows.Row
held_row n = get_or (map coded_row (standing_in (gable_parts ++ flat_parts))) n (0, 0, [])

abbrev pub coded_slope : Standing → coded-slopes.Slope
coded_slope s = (s.at, s.row.cells)

abbrev pub held_slope : ℕ → coded-slopes.Slope
held_slope n = get_or (map coded_slope single_slope) n (0, [])
