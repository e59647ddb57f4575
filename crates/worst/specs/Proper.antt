-- Sums whose pairs are those of totals, with a remainder of less than 1 N. Only contracts of private functions cite it.
use Rattle.std.specs.Prelude.{◌≡◌, true, List, ℕ, ◌<◌, get_or}
use Rattle.pair.specs.declared.Pair.{Pair}
use Rattle.pair.specs.Total.{proper}
use Rattle.worst.specs.declared.Span.{Span}
use Rattle.worst.specs.declared.StoredCell.{StoredCell}
use Rattle.worst.specs.declared.Stored.{Stored}
use Rattle.worst.specs.declared.tops.Tops.{Tops}
use Rattle.worst.specs.declared.tops.Ends.{Ends}
use Rattle.worst.specs.Stored.{no_cell}

abbrev pub Proper : Pair → Type 0
Proper p = proper p ≡ true

pub record ProperSpan (p : Span) : Type 0 where
  pub greatest : Proper p.greatest
  pub least : Proper p.least

pub record ProperCell (t : StoredCell) : Type 0 where
  pub x : ProperSpan t.x
  pub y : ProperSpan t.y
  pub z : ProperSpan t.z

-- the first n of these
abbrev pub ProperCells : ℕ → List StoredCell → Type 0
ProperCells n l = (k : ℕ) → k < n → ProperCell (get_or l k no_cell)

abbrev pub ProperStored : Stored → Type 0
ProperStored t = ProperCells 32 t.cell

-- and of the best cells so far
pub record ProperTops (t : Tops Pair) : Type 0 where
  pub greatest : Proper t.greatest.total
  pub least : Proper t.least.total

pub record ProperEnds (e : Ends Pair) : Type 0 where
  pub x : ProperTops e.x
  pub y : ProperTops e.y
  pub z : ProperTops e.z
