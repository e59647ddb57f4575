-- `unit`: p is 2 ^ k for a k that is no more than the digits to be dropped.
use Prim.Native.Nat.{ℕ, ◌≤◌, ◌-◌, ◌^◌}
use mathlib.Core.Path.{◌≡◌}
use lib.Ieee.{size}
use Rattle.panel.proofs.unit.Given as goal

abbrev pub invariant-loop-p : goal.invariant-loop-p
invariant-loop-p l = (k : ℕ) × (l.p ≡ 2 ^ k) × (k ≤ size l.m - 53)

abbrev pub decreases-loop-p : goal.decreases-loop-p
decreases-loop-p l = l.m - l.p
