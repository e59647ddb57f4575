-- `sums::added` meets its contract: after some parts that end at face i the sums are those of the first i.
use mathlib.Core.Path.{◌≡◌}
use mathlib.Core.List.{List}
use Prim.Native.Nat.{◌-◌, ◌≤◌}
use Rattle.whole.specs.Lists.{first_of}
use Rattle.entry.specs.declared.Step.{Step}
use Rattle.entry.specs.Flat.{faces_in}
use Rattle.job.specs.Carried.{no_face}
use Rattle.worst.specs.Amounts.{axes_in, AllSumsSmall}
use Rattle.worst.specs.Engine.{axes_of}
use Rattle.worst.specs.Lent.{faces_by}
use Rattle.worst.specs.Factors.{FactorsStand}
use Rattle.worst.proofs.sums.added.Given as goal

abbrev pub invariant-loop-i : goal.invariant-loop-i
invariant-loop-i l =
    (l.i ≤ l.count) × AllSumsSmall l.i l.sums
    × ((profile : List Step) → FactorsStand profile (faces_by l.faces l.flat) l.factors
    → axes_in l.sums ≡ axes_of l.b profile l.w (first_of no_face l.i (faces_in l.faces l.flat)))
    × (l.table.building ≡ l.b)

abbrev pub decreases-loop-i : goal.decreases-loop-i
decreases-loop-i l = l.count - l.i
