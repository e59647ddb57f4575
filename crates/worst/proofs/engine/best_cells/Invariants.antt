-- `engine::best_cells` meets its contract: after w winds each top is the best cell of the first w.
use mathlib.Core.Path.{◌≡◌}
use Prim.Native.Nat.{ℕ}
use mathlib.Core.List.{List}
use Rattle.entry.specs.declared.Step.{Step}
use Rattle.worst.specs.declared.Axis.{Axis}
use Rattle.worst.specs.declared.Side.{Side}
use Rattle.worst.specs.declared.StoredCell.{StoredCell}
use Rattle.worst.specs.Stored.{cells_of}
use Rattle.worst.specs.Engine.{top_of, top_at, best_up_to}
use Rattle.worst.specs.Lent.{faces_by}
use Rattle.worst.specs.Factors.{FactorsStand}
use Rattle.worst.specs.Proper.{ProperEnds}
use Rattle.worst.proofs.JobSums.{CellsReckoned}
use Rattle.worst.proofs.engine.best_cells.Given as goal

abbrev pub invariant-loop-w : goal.invariant-loop-w
invariant-loop-w l =
    (l.table.building ≡ l.b) × ProperEnds l.ends
    × ((profile : List Step) → FactorsStand profile (faces_by l.faces l.flat) l.factors → (h : ℕ → StoredCell)
    → CellsReckoned l.b profile l.winds l.internals (faces_by l.faces l.flat) h → (axis : Axis) (side : Side)
    → top_of (top_at axis side l.ends) ≡ best_up_to axis side (cells_of h) l.internals.count l.w)
