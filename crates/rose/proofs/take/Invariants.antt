-- `take` meets its contract: what the rose so far comes to with the rest of the part stays the same.
use mathlib.Core.Path.{◌≡◌}
use lib.ListN.{drop}
use Rattle.rose.specs.Taken.{part_taken}
use Rattle.rose.proofs.Taken.{open_rose}
use Rattle.rose.proofs.take.Given as goal

abbrev pub invariant-loop-b : goal.invariant-loop-b
invariant-loop-b l =
    part_taken (open_rose l.verdict l.initial.accepted l.initial.cell l.initial.pending) l.part
    ≡ part_taken (open_rose l.verdict l.accepted l.cell l.pending) (drop l.b-index l.part)
