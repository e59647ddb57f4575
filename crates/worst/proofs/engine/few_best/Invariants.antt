-- `engine::few_best` meets its contract: after w winds each top is the best cell of the first w, and that of a wind is
-- at the internal coefficient that the side takes.
use mathlib.Core.Path.{◌≡◌}
use mathlib.Core.List.{List}
use Prim.Native.Nat.{ℕ, ◌≤◌}
use Rattle.entry.specs.declared.Step.{Step}
use Rattle.job.specs.declared.Internals.{Internals}
use Rattle.worst.specs.declared.Axis.{Axis}
use Rattle.worst.specs.declared.Side.{Side}
use Rattle.worst.specs.declared.StoredCell.{StoredCell}
use Rattle.worst.specs.Engine.{few_top_of, top_at}
use Rattle.worst.specs.Inside.{Furthest}
use Rattle.worst.specs.Stored.{cells_of}
use Rattle.worst.specs.Engine.{best_up_to}
use Rattle.worst.specs.Lent.{faces_by}
use Rattle.worst.specs.Factors.{FactorsStand}
use Rattle.worst.proofs.JobSums.{CellsReckoned}
use Rattle.worst.proofs.engine.few_best.Given as goal

abbrev pub invariant-loop-w : goal.invariant-loop-w
invariant-loop-w l =
    (l.table.building ≡ l.b)
    × ((profile : List Step) → FactorsStand profile (faces_by l.faces l.flat) l.factors → (is : Internals)
    → is.count ≤ 4 → Furthest is is.count l.insides → (h : ℕ → StoredCell)
    → CellsReckoned l.b profile l.winds is (faces_by l.faces l.flat) h → (axis : Axis) (side : Side)
    → few_top_of (top_at axis side l.ends) ≡ best_up_to axis side (cells_of h) is.count l.w)
