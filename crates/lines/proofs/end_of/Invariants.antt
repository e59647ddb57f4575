-- `end_of` meets its contract: the first space or LF from `at` on is the first from i on.
use Prim.Native.Nat.{◌+◌}
use mathlib.Core.Path.{◌≡◌}
use lib.ListN.{drop}
use Rattle.lines.specs.Held.{field_length}
use Rattle.lines.proofs.end_of.Given as goal

abbrev pub invariant-loop-i : goal.invariant-loop-i
invariant-loop-i l = l.at + field_length (drop l.at l.s) ≡ l.i + field_length (drop l.i l.s)
