-- `tally::tally_all` meets its contract: what is counted before i, and what stands from there on, is all.
use Prim.Native.Nat.{◌≤◌}
use mathlib.Core.Path.{◌≡◌}
use lib.ListN.{drop}
use Rattle.mend.specs.OneWalk.{at_start, nothing_tallied, fates_from, tallied}
use Rattle.mend.proofs.tally.tally_all.Given as goal

abbrev pub invariant-loop-i : goal.invariant-loop-i
invariant-loop-i l =
    (l.t.kept ≤ l.i) × (l.t.taken ≤ l.i)
    × (tallied nothing_tallied (fates_from at_start l.s) ≡ tallied l.t (fates_from l.w (drop l.i l.s)))
