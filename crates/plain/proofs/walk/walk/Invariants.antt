-- `walk::walk` meets its contract: the best of the choices of the numbers so far is kept.
use mathlib.Core.List.{List}
use Prim.Native.Nat.{ℕ, ◌-◌}
use lib.ListN.{length}
use Rattle.whole.specs.Lists.{numbers}
use Rattle.worst.specs.declared.Axis.{Axis}
use Rattle.worst.specs.declared.Side.{Side}
use Rattle.worst.specs.declared.FaceForces.{FaceForces}
use Rattle.worst.specs.Best.{Best, better}
use Rattle.worst.specs.Cases.{Case, total}
use Rattle.worst.specs.Quick.{over}
use Rattle.worst.specs.Rows.{force_in}
use Rattle.worst.specs.Worst.{shown_in}
use Rattle.plain.specs.ByNumber.{choice_of}
use Rattle.plain.specs.Walked.{valued, Keeps}
use Rattle.plain.proofs.walk.walk.Given as goal

-- the case of number n on an axis
abbrev pub numbered : Axis → List FaceForces → ℕ → ℕ → ℕ → Best (Case ℕ ℕ ℕ)
numbered axis fs w i n = valued (total (force_in axis) fs) w i (choice_of fs n)

abbrev pub invariant-loop-n : goal.invariant-loop-n
invariant-loop-n l =
    (axis : Axis) (s : Side) (b : Best (Case ℕ ℕ ℕ)) → Keeps (length l.fs) (shown_in l.initial.kept axis s) b
    → Keeps (length l.fs) (shown_in l.kept axis s)
    (better s b (over s (numbered axis l.fs l.wind l.internal) (numbers (l.n - 1) 1)))
