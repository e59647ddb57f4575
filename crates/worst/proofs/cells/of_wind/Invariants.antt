-- `cells::of_wind` meets its contract: after i internal coefficients the first i cells stand.
use Rattle.std.proofs.Common.{◌≡◌, ℕ, ◌<◌, pos, get_or}
use Rattle.worst.specs.declared.StoredCell.{StoredCell}
use Rattle.worst.specs.Amounts.{axes_in}
use Rattle.worst.specs.Engine.{cell_with, UpTo}
use Rattle.worst.proofs.cells.of_wind.Given as goal

abbrev pub invariant-loop-i : goal.invariant-loop-i
invariant-loop-i l =
    (h : ℕ → StoredCell)
    → ((k : ℕ) → k < l.count → h k ≡ cell_with (axes_in l.sums) (get_or l.fn.internals.entry k (pos 0)))
    → UpTo 4 h l.i l.four.cell
