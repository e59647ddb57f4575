-- `ratio::at_most`: a product of two numbers of 32 bits fits 64.
use Prim.Native.Nat.{ℕ, ◌*◌, ◌≤◌, ◌<◌}
use native.Mathlib.Nat.{mul-le-mul}
use native.Mathlib.Omega.{arith}
use Rattle.building.proofs.ratio.at_most.Goals as goal

product : {n m : ℕ} → n < 4294967296 → m < 4294967296 → n * m ≤ 4294967295 * 4294967295
product {n} {m} h k = mul-le-mul {n₁ = n} {m₁ = m} {n₂ = 4294967295} {m₂ = 4294967295} (omega arith) (omega arith)

pub overflow_mul-result : goal.overflow_mul-result
overflow_mul-result c = omega (arith, product {n = c.args.n} {m = c.args.y} (omega arith) (omega arith))

pub overflow_mul-result-2 : goal.overflow_mul-result-2
overflow_mul-result-2 c = omega (arith, product {n = c.args.m} {m = c.args.z} (omega arith) (omega arith))
