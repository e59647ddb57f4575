-- `few::few_added` meets its contract: with the sums of the faces before, the sums up to face i are those of the first
-- i.
use mathlib.Core.Path.{◌≡◌}
use mathlib.Core.List.{List}
use Prim.Native.Nat.{◌-◌}
use Rattle.whole.specs.Lists.{first_of}
use Rattle.entry.specs.declared.Step.{Step}
use Rattle.entry.specs.Flat.{faces_in}
use Rattle.job.specs.Carried.{no_face}
use Rattle.worst.specs.Sums.{plus_axes}
use Rattle.worst.specs.Few.{few_axes, FewSmall}
use Rattle.worst.specs.Engine.{axes_of}
use Rattle.worst.specs.Lent.{faces_by}
use Rattle.worst.specs.Factors.{FactorsStand}
use Rattle.worst.proofs.few.few_added.Given as goal

abbrev pub invariant-loop-i : goal.invariant-loop-i
invariant-loop-i l =
    FewSmall (l.i - l.from) l.sums
    × ((profile : List Step) → FactorsStand profile (faces_by l.to l.flat) l.factors
    → plus_axes (axes_of l.b profile l.w (first_of no_face l.from (faces_in l.to l.flat))) (few_axes l.sums)
    ≡ axes_of l.b profile l.w (first_of no_face l.i (faces_in l.to l.flat)))
    × (l.table.building ≡ l.b)
