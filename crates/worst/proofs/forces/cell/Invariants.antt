-- `forces::cell` meets its contract: after i faces the forces of the first i stand in the array.
use mathlib.Core.Path.{◌≡◌}
use mathlib.Core.List.{List}
use Rattle.whole.specs.Lists.{first_of}
use Rattle.entry.specs.declared.Step.{Step}
use Rattle.entry.specs.Flat.{faces_in}
use Rattle.job.specs.Carried.{no_face}
use Rattle.worst.specs.Lent.{faces_by}
use Rattle.worst.specs.Factors.{FactorsStand}
use Rattle.worst.proofs.PerFace.{rows_of}
use Rattle.worst.proofs.forces.cell.Given as goal

abbrev pub invariant-loop-i : goal.invariant-loop-i
invariant-loop-i l =
    (profile : List Step) → FactorsStand profile (faces_by l.count l.flat) l.factors
    → l.all ≡ rows_of l.d.year l.d.building profile l.w l.internal (first_of no_face l.i (faces_in l.count l.flat))
