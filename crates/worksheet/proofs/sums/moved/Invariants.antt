-- `sums::moved`: the cells before the next stand as they are to.
use mathlib.Core.Path.{◌≡◌}
use Prim.Native.Nat.{ℕ, ◌<◌}
use lib.ListN.{length, get_or}
use Rattle.worst.specs.declared.Stored.{Stored}
use Rattle.worst.specs.declared.StoredCell.{StoredCell}
use Rattle.worst.specs.Stored.{no_cell}
use Rattle.worksheet.specs.Kept.{moved_cell, cell_at}
use Rattle.worksheet.proofs.sums.moved.Given as goal

abbrev pub moves : Stored → Stored → Stored → ℕ → StoredCell
moves held out new k = moved_cell (cell_at held k) (cell_at out k) (cell_at new k)

abbrev pub invariant-loop-k : goal.invariant-loop-k
invariant-loop-k l =
    record {
      long : length l.all.cell ≡ 32;
      moved : (i : ℕ) → i < l.k → get_or l.all.cell i no_cell ≡ moves l.held l.out l.new i;
    }
