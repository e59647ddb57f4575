-- `add::total` meets its contract: after i faces the totals are those of the first i.
use mathlib.Core.Path.{◌≡◌}
use lib.ListN.{take}
use Rattle.whole.specs.Lists.{first_of}
use Rattle.plain.specs.Walked.{totals_of}
use Rattle.plain.proofs.add.total.Given as goal

abbrev pub invariant-loop-i : goal.invariant-loop-i
invariant-loop-i l = l.all ≡ totals_of (take l.i l.fs) (first_of 0 l.i l.choice)
