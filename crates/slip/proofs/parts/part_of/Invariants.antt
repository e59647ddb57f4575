-- `parts::part_of`: part by part, what is behind the parts before it.
use Rattle.slip.proofs.Split.{Behind}
use Rattle.slip.proofs.parts.part_of.Given as goal

abbrev pub invariant-loop-i : goal.invariant-loop-i
invariant-loop-i l = Behind l.b l.s l.n l._i l.from
