-- `chosen::before_f` meets its contract: no face before the one that is looked at is of zone F.
use mathlib.Core.Path.{◌≡◌}
use Prim.Native.Nat.{ℕ, ◌<◌}
use Rattle.building.specs.Places.{F}
use Rattle.entry.specs.Flat.{face_in}
use Rattle.worst.proofs.chosen.before_f.Given as goal

abbrev pub invariant-loop-i : goal.invariant-loop-i
invariant-loop-i l = (k : ℕ) → k < l.i → (face_in l.flat k).zone ≡ F → ⊥
