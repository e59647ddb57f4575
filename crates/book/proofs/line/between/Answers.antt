-- `line::between`: the divisor is above 0, and what it leaves is no larger.
use mathlib.Core.Path.{sym, ap, subst}
use Prim.Native.Nat.{ℕ, ◌/◌, ◌<◌}
use native.Mathlib.Nat.{div-le_self}
use native.Mathlib.Omega.{arith}
use Rattle.whole.proofs.Lowest.{divisor-some}
use Rattle.book.proofs.line.between.Goals.{After-common_divisor-divisor}
use Rattle.book.proofs.line.between.Goals as goal

above : (c : After-common_divisor-divisor) → 0 < c.common_divisor-divisor.result
above c =
    let some = divisor-some c.args.part c.args.whole c.requires.0 in
    subst (λ (n : ℕ). 0 < n) (sym c.common_divisor-divisor.ensures) some

pub nonzero_div-result : goal.nonzero_div-result
nonzero_div-result c = omega (arith, above c)

pub overflow_cast-result : goal.overflow_cast-result
overflow_cast-result c = omega (arith, div-le_self c.args.part c.common_divisor-divisor.result)

pub nonzero_div-result-2 : goal.nonzero_div-result-2
nonzero_div-result-2 c = omega (arith, above c)

pub overflow_cast-result-2 : goal.overflow_cast-result-2
overflow_cast-result-2 c = omega (arith, div-le_self c.args.whole c.common_divisor-divisor.result)

pub returns : goal.returns
returns c =
    let a = c.args in
    ap (λ (g : ℕ). record { lower = a.lower; upper = a.upper; part = a.part / g; whole = a.whole / g })
    c.common_divisor-divisor.ensures
