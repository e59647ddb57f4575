-- A fraction in lowest terms, and the greatest common divisor that brings it there.
use Rattle.std.specs.Prelude.{◌≡◌, cond, ◌&&◌, ℕ, zero, suc, ◌*◌, ◌%◌, ◌<◌, eqb}
use Rattle.std.specs.Int.{◌∣◌}

-- part/whole is x/y in lowest terms: the same fraction, and no number above 1 divides both
pub record LowestTerms (x y part whole : ℕ) : Type 0 where
  pub same : part * y ≡ x * whole
  pub lowest : (n : ℕ) → 1 < n → n ∣ part → n ∣ whole → ⊥

-- the greatest number up to n that divides both x and y, counted down from n
unfoldable pub divisor_up_to : ℕ → ℕ → ℕ → ℕ
divisor_up_to zero x y = y
divisor_up_to (suc n) x y = cond (eqb (x % suc n) 0 && eqb (y % suc n) 0) (suc n) (divisor_up_to n x y)

-- the greatest of all, which is not above x; where x is 0, which every number divides, it is y
unfoldable pub common_divisor : ℕ → ℕ → ℕ
common_divisor x y = divisor_up_to x x y
