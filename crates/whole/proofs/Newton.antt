-- A total is its whole newtons and its remainder, and no other such pair is that total.
use mathlib.Core.Path.{◌≡◌, refl}
use Prim.Native.Nat.{ℕ, ◌^◌, ◌≤◌, ◌<◌}
use native.Mathlib.Omega.{arith}
use lib.IntN.{ℤ, pos, negsuc, nat_abs, ◌+ℤ◌, ◌*ℤ◌}
use lib.Signed.{mag}
use Rattle.whole.specs.Round.{round_down, left_over}
use Rattle.whole.specs.Newton.{newton, newtons, remainder}
use Rattle.whole.proofs.Rounding.{left_over-small, down-and-left, down-unique}

pub remainder-small : (z : ℤ) → remainder z < newton
remainder-small z = left_over-small z newton (omega arith)

pub newtons-and-remainder : (z : ℤ) → newtons z *ℤ pos newton +ℤ pos (remainder z) ≡ z
newtons-and-remainder z = down-and-left z newton (omega arith)

pub newtons-unique : (q : ℤ) (r : ℕ) (z : ℤ) → r < newton → q *ℤ pos newton +ℤ pos r ≡ z
    → (q ≡ newtons z) × (r ≡ remainder z)
newtons-unique q r z = down-unique q r z newton

-- how large the newtons of a signed number of 64 bits are
pub newtons-few : (z : ℤ) → mag z < 2 ^ 63 → nat_abs (newtons z) ≤ 461_168_602
unfolding round_down
newtons-few (pos n) h = omega arith
newtons-few (negsuc n) h = omega arith

-- minus one unit is -1 N and 19,999,999,999 units
below-zero : (newtons (negsuc 0) ≡ negsuc 0) × (remainder (negsuc 0) ≡ 19_999_999_999)
unfolding round_down left_over
below-zero = (refl, refl)
