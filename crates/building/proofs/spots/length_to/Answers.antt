-- `spots::length_to`: six times a length of 32 bits fits 64, and what is over the greatest length is cut to it.
use Prim.Native.Nat.{ℕ, ◌*◌, ◌≤◌}
use mathlib.Core.Path.{ap, sym, ◌∙◌}
use native.Mathlib.Nat.{mul-le-mul, min-eq_left, min-eq_right, le_of_lt}
use native.Mathlib.Omega.{arith}
use lib.IntN.{pos}
use mir.Syntax.{w64}
use mir.Facts.{to_z_pos}
use Rattle.building.proofs.spots.length_to.Goals as goal

product : {n m : ℕ} → n ≤ 6 → m ≤ 4294967295 → n * m ≤ 6 * 4294967295
product {n} {m} h k = mul-le-mul {n₁ = n} {m₁ = m} {n₂ = 6} {m₂ = 4294967295} h k

pub overflow_mul-most : goal.overflow_mul-most
overflow_mul-most c = omega (arith, product {n = c.args.times} {m = c.args.b} c.requires (omega arith))

pub returns-then-most-gt30000 : goal.returns-then-most-gt30000
returns-then-most-gt30000 c = ap pos (sym (min-eq_left (le_of_lt c.if-most-gt30000.true)))

pub returns : goal.returns
returns c = to_z_pos w64 (omega (arith, c.if-most-gt30000.false))
    ∙ ap pos (sym (min-eq_right (omega (arith, c.if-most-gt30000.false))))
