-- A way as the code has it, with its rows by their numbers, and the parts of the roofs' tables in the code's order.
-- Only contracts of private functions cite it.
use Rattle.std.specs.Prelude.{List, [], ◌∷◌, ◌++◌, ℕ}
use Rattle.book.specs.declared.line.Spot.{Spot}
use Rattle.book.specs.declared.Values.{Values}
use Rattle.book.specs.declared.Cited.{Cited}
use Rattle.book.specs.Row.{Standing}
use Rattle.book.specs.Line.{Way}
use Rattle.book.specs.Gable.{gable_parts}
use Rattle.book.specs.Flat.{flat_parts}
use Rattle.book.specs.SingleSlope.{single_slope}

abbrev pub roof_parts : List (List Standing)
roof_parts = (gable_parts ++ flat_parts) ++ (single_slope ∷ [])

abbrev pub spot_of : Way → Spot
spot_of w = record { lower = w.lower.number; upper = w.upper.number; part = w.part; whole = w.whole }

-- on the row of a number
abbrev pub row_spot : ℕ → Spot
row_spot n = record { lower = n; upper = n; part = 0; whole = 1 }

-- values that lie at a spot
abbrev pub cites_at : Values → Spot → Cited
cites_at values w =
    record { values = values; lower = w.lower; upper = w.upper; part = w.part; whole = w.whole }
