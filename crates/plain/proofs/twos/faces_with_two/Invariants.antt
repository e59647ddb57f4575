-- `twos::faces_with_two` meets its contract: the faces are marked that have two under one of the winds so far.
use mathlib.Core.Path.{◌≡◌}
use mathlib.Core.Bool.{Bool, false}
use mathlib.Core.List.{List}
use Prim.Native.Nat.{ℕ, ◌-◌, ◌<◌}
use lib.Dec.{eqb}
use lib.ListN.{length, get_or, take}
use Rattle.entry.specs.declared.Wind.{Wind}
use Rattle.job.specs.declared.Job.{Job}
use Rattle.job.specs.Carried.{carried, most_faces, no_face}
use Rattle.worst.specs.Forces.{alternatives}
use Rattle.worst.specs.Worst.{given}
use Rattle.plain.specs.Plain.{any_of}
use Rattle.plain.proofs.twos.faces_with_two.Given as goal

-- face k has two under a wind, and under one of the first n
abbrev pub two : Job → ℕ → Wind → Bool
two j k w = eqb (length (alternatives (given (carried j)) w (get_or (carried j).faces k no_face))) 2

abbrev pub among : Job → ℕ → ℕ → Bool
among j n k = any_of (two j k) (take n (carried j).winds)

-- the faces are marked that have two under one of the first n winds
pub record Marked (j : Job) (n : ℕ) (marks : List Bool) : Type 0 where
  pub long : length marks ≡ most_faces
  pub at : (k : ℕ) → k < j.faces.count → get_or marks k false ≡ among j n k

abbrev pub invariant-loop-w : goal.invariant-loop-w
invariant-loop-w l = Marked l.job (l.w - 1) l.marks
