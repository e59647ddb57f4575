-- `common_divisor`: each turn leaves the divisors that both have as they are.
use Rattle.whole.proofs.Lowest.{Shared}
use Rattle.whole.proofs.common_divisor.Given as goal

abbrev pub invariant-loop-b : goal.invariant-loop-b
invariant-loop-b l = Shared l.x l.y l.a l.b

abbrev pub decreases-loop-b : goal.decreases-loop-b
decreases-loop-b l = l.b
