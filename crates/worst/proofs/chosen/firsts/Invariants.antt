-- `chosen::firsts` meets its contract: after i faces the first i stand.
use mathlib.Core.Path.{◌≡◌}
use lib.ListN.{replicate}
use Rattle.worst.specs.Shown.{padded}
use Rattle.worst.proofs.chosen.firsts.Given as goal

abbrev pub invariant-loop-i : goal.invariant-loop-i
invariant-loop-i l = l.all ≡ padded 240 (replicate l.i 1)
