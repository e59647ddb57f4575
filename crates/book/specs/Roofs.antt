-- Roofs: the table of a roof, its part for this building, and where x lies in it.
use Rattle.std.specs.Prelude.{Bool, cond, List, [], ℕ, ◌-◌, eqb, get_or}
use Rattle.building.specs.declared.Sizes.{Sizes}
use Rattle.building.specs.Test.{among}
use Rattle.book.specs.Row.{Row, Standing}
use Rattle.book.specs.Line.{Way, way_in}
use Rattle.book.specs.Gable.{gable_parts, gable_table, block_of}
use Rattle.book.specs.Flat.{flat_parts, flat_table}
use Rattle.book.specs.SingleSlope.{single_slope, single_table}

-- kinds 2 to 5
abbrev pub flat_roof : ℕ → Bool
flat_roof kind = among 2 5 kind

-- the table of a roof of a kind, how many rows it numbers, and how many columns it has
abbrev pub roof_table : ℕ → List Row
roof_table kind = cond (eqb kind 1) gable_table (cond (eqb kind 6) single_table flat_table)

abbrev pub last_number : ℕ → ℕ
last_number kind = cond (eqb kind 1) 22 (cond (eqb kind 6) 5 10)

abbrev pub width : ℕ → ℕ
width kind = cond (eqb kind 6) 10 4

-- a gable's part goes by h/b, a flat roof's by its kind; the table of single slopes is one part
abbrev pub part_of : Sizes → List Standing
part_of s =
    cond (eqb s.kind 1) (get_or gable_parts (block_of s.h s.b) [])
    (cond (eqb s.kind 6) single_slope (get_or flat_parts (s.kind - 2) []))

unfoldable pub roof_way : Sizes → Way
roof_way s = way_in (part_of s) s.along s.across
