-- `fill::put_all` meets its contract: what is put before i, and what the fates from there on bring, is all.
use Prim.Native.Nat.{◌+◌, ◌≤◌}
use lib.ListN.{drop}
use Rattle.mend.specs.OneWalk.{at_start, fates_from}
use Rattle.mend.proofs.Filling.{Going}
use Rattle.mend.proofs.fill.put_all.Given as goal

abbrev pub invariant-loop-i : goal.invariant-loop-i
invariant-loop-i l =
    (l.p.line ≤ l.i + 1) × (l.p.place ≤ l.i + 1)
    × Going l.added (fates_from at_start l.s) l.initial.out l.initial.list l.out l.list l.at l.next l.p
    (fates_from l.w (drop l.i l.s))
