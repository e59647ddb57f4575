-- How a student works out a coefficient again: from the rows that an answer cites, as they are printed, alone.
use Rattle.std.specs.Prelude.{cond, List, ℕ, pos, get_or}
use Rattle.building.specs.declared.Sizes.{Sizes}
use Rattle.building.specs.Places.{wall_place}
use Rattle.book.specs.declared.Cited.{Cited}
use Rattle.book.specs.Row.{Row, row_numbered}
use Rattle.book.specs.Line.{Way}
use Rattle.book.specs.Interpolated.{NearLine}
use Rattle.book.specs.Walls.{wall_table}
use Rattle.book.specs.Roofs.{roof_table}
use Rattle.book.specs.Answer.{values_in}
use Rattle.book.specs.Question.{wall_column, roof_column}

-- the table for a place, and the column in it
abbrev pub table_for : Sizes → ℕ → List Row
table_for s place = cond (wall_place place) wall_table (roof_table s.kind)

abbrev pub column_for : Sizes → ℕ → ℕ → ℕ
column_for s wind place =
    cond (wall_place place) (wall_column wind place) (roof_column s.kind wind place)

-- the way that an answer cites, with the rows that the table has under these numbers
abbrev pub way_cited : List Row → Cited → Way
way_cited table c =
    record {
      lower = row_numbered c.lower table;
      upper = row_numbered c.upper table;
      part = c.part;
      whole = c.whole;
    }

-- the first alternative is nearest to lower + part/whole × (upper - lower)
abbrev pub ByHand : List Row → ℕ → Cited → Type 0
ByHand table col c = NearLine (way_cited table c) col (get_or (values_in c.values) 0 (pos 0))
