-- `ahead::next_byte` meets its contract: up to j stand returns runs-on.
use mathlib.Core.Path.{◌≡◌}
use lib.ListN.{drop}
use Rattle.mend.specs.OneWalk.{clean}
use Rattle.mend.proofs.ahead.next_byte.Given as goal

abbrev pub invariant-loop-j : goal.invariant-loop-j
invariant-loop-j l = clean (drop l.i l.s) ≡ clean (drop l.j l.s)
