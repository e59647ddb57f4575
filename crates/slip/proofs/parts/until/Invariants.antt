-- `parts::until`: the first b from `at` on is the first from i on.
use Prim.Native.Nat.{◌+◌}
use mathlib.Core.Path.{◌≡◌}
use lib.ListN.{drop}
use Rattle.lines.specs.Held.{until}
use Rattle.slip.proofs.parts.until.Given as goal

abbrev pub invariant-loop-i : goal.invariant-loop-i
invariant-loop-i l = l.at + until l.b (drop l.at l.s) ≡ l.i + until l.b (drop l.i l.s)
