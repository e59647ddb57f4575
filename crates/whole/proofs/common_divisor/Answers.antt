-- `common_divisor`: each turn leaves the divisors that both have as they are.
use mathlib.Core.Path.{◌≡◌, subst}
use native.Mathlib.Omega.{arith}
use Rattle.whole.proofs.Lowest.{Shared, shared-next, shared_last}
use Rattle.whole.proofs.common_divisor.Goals as goal

pub loop-b-preserved : goal.loop-b-preserved
loop-b-preserved c = shared-next c.loop-b.invariant

pub returns : goal.returns
returns c =
    let a = c.args in
    let gone : c.loop-b.b ≡ 0 = omega arith in
    shared_last a.x a.y (subst (Shared a.x a.y c.loop-b.a) gone c.loop-b.invariant)
