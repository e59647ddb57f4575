-- `ahead::runs_on` meets its contract: what is found from i on is what is found from j on.
use mathlib.Core.Path.{◌≡◌}
use lib.ListN.{drop}
use Rattle.mend.specs.OneWalk.{clean, runs_on}
use Rattle.mend.proofs.ahead.runs_on.Given as goal

abbrev pub invariant-loop-j : goal.invariant-loop-j
invariant-loop-j l = runs_on l.digits (clean (drop l.i l.s)) ≡ runs_on l.digits (clean (drop l.j l.s))
