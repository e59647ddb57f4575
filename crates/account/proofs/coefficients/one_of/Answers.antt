-- `coefficients::one_of` meets its contract: the first, the second, or none.
use mathlib.Core.Path.{◌≡◌, ◌∙◌}
use Prim.Native.Nat.{◌-◌, ◌≤◌}
use native.Mathlib.Omega.{arith}
use mir.Syntax.{w32}
use mir.ValLaws.{to_z-of_z}
use Rattle.account.proofs.Alternatives.{past_two}
use Rattle.account.proofs.coefficients.one_of.Goals as goal

pub returns-then-alternative-le1 : goal.returns-then-alternative-le1
returns-then-alternative-le1 c =
    let e : c.args.alternative - 1 ≡ 0 = omega (arith, c.if-alternative-le1.true) in
    to_z-of_z w32 c.args.first c.ranges.first ∙ rw e

pub returns-then-alternative-eq2 : goal.returns-then-alternative-eq2
returns-then-alternative-eq2 c =
    let e : c.args.alternative - 1 ≡ 1 = omega (arith, c.if-alternative-eq2.true) in
    to_z-of_z w32 c.args.second c.ranges.second ∙ rw e

pub returns : goal.returns
returns c =
    let above : 2 ≤ c.args.alternative - 1 = omega (arith, c.if-alternative-le1.false, c.if-alternative-eq2.false) in
    past_two c.args.first c.args.second (c.args.alternative - 1) above
