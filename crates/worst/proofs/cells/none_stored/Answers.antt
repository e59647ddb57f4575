-- `cells::none_stored` meets its contract: it is computed.
use mathlib.Core.Path.{ap}
use Rattle.worst.specs.declared.StoredCell.{StoredCell}
use Rattle.whole.specs.Lists.{numbers}
use Rattle.worst.specs.Stored.{cells_of}
use Rattle.worst.proofs.cells.none_stored.Goals as goal

pub returns : goal.returns
unfolding numbers
returns c = ap (λ (z : StoredCell). cells_of (λ k. z)) c.no_cell-empty.ensures
