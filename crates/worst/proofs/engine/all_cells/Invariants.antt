-- `engine::all_cells` meets its contract: after w winds the cells stand up to those of the next.
use mathlib.Core.Path.{◌≡◌}
use mathlib.Core.List.{List}
use Prim.Native.Nat.{ℕ, ◌*◌}
use Rattle.entry.specs.declared.Step.{Step}
use Rattle.worst.specs.declared.StoredCell.{StoredCell}
use Rattle.worst.specs.Stored.{stored_cells}
use Rattle.worst.specs.Engine.{UpTo}
use Rattle.worst.specs.Factors.{FactorsStand}
use Rattle.worst.specs.Lent.{faces_by}
use Rattle.worst.proofs.JobSums.{CellsReckoned}
use Rattle.worst.proofs.engine.all_cells.Given as goal

abbrev pub invariant-loop-w : goal.invariant-loop-w
invariant-loop-w l =
    (l.table.building ≡ l.b)
    × ((profile : List Step) → FactorsStand profile (faces_by l.faces l.flat) l.factors → (h : ℕ → StoredCell)
    → CellsReckoned l.b profile l.winds l.internals (faces_by l.faces l.flat) h
    → UpTo stored_cells h (4 * l.w) l.stored.cell)
