-- `faults::out_of_roof`: the limits of the roof's kind, times what x is compared over.
-- a limit of the kind, times what x is compared over
use mathlib.Core.Path.{◌≡◌, ap}
use Prim.Native.Nat.{ℕ, ◌*◌, ◌≤◌}
use native.Mathlib.Nat.{mul-le-mul}
use native.Mathlib.Omega.{arith}
use lib.Dec.{ltb}
use borrow.Author.Tests.{lt-ltb, le-ltb}
use Rattle.building.specs.Building.{out_of_roof}
use Rattle.building.proofs.Machine.{or_here, or_there}
use Rattle.building.proofs.Roofs.{least-most, greatest-most}
use Rattle.building.proofs.faults.out_of_roof.Goals as goal

small : {n d k : ℕ} → n ≡ k → k ≤ 900 → d ≤ 30000 → n * d ≤ 900 * 30000
small {n} {d} p h g = mul-le-mul {n₁ = n} {m₁ = d} {n₂ = 900} {m₂ = 30000} (omega arith) (omega arith)

pub overflow_mul-roof : goal.overflow_mul-roof
overflow_mul-roof c =
    omega (arith, small c.roof_of-roof.ensures.least (least-most c.args.s.kind) c.requires.across-most)

pub overflow_mul-result : goal.overflow_mul-result
overflow_mul-result c =
    omega (arith, small c.roof_of-roof.ensures.greatest (greatest-most c.args.s.kind) c.requires.across-most)

pub returns-then-s-roof : goal.returns-then-s-roof
unfolding out_of_roof
returns-then-s-roof c =
    let s = c.args.s in
    or_here _ (lt-ltb s.along (c.roof_of-roof.result.0 * s.across) c.if-s-roof.true)
    (ap (λ (n : ℕ). ltb s.along (n * s.across)) c.roof_of-roof.ensures.least)

pub returns-else-s-roof : goal.returns-else-s-roof
unfolding out_of_roof
returns-else-s-roof c =
    let s = c.args.s in
    or_there (le-ltb s.along (c.roof_of-roof.result.0 * s.across) c.if-s-roof.false)
    (ap (λ (n : ℕ). ltb s.along (n * s.across)) c.roof_of-roof.ensures.least)
    (ap (λ (n : ℕ). ltb (n * s.across) s.along) c.roof_of-roof.ensures.greatest)
