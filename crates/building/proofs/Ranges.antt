-- The tests of one number, as orders.
use mathlib.Core.Path.{◌≡◌}
use mathlib.Core.Bool.{false}
use Prim.Native.Nat.{ℕ, ◌≤◌}
use lib.IntN.{ℤ, pos, neg_ℤ, nat_abs}
use lib.Signed.{lt_z, ◌≤ℤ◌}
use Rattle.whole.proofs.Order.{lt-false, false-lt}
use Rattle.whole.proofs.Size.{size_low, size-high, size-between}
use Rattle.whole.proofs.Tests.{or-false}
use Rattle.building.specs.Test.{beyond}

module _ (least greatest z : ℤ) where
  pub not_beyond : beyond least greatest z ≡ false → (least ≤ℤ z) × (z ≤ℤ greatest)
  unfolding beyond
  not_beyond e =
      let t = or-false (lt_z z least) (lt_z greatest z) e in (lt-false z least t.0, lt-false greatest z t.1)

  pub is_within : least ≤ℤ z → z ≤ℤ greatest → beyond least greatest z ≡ false
  unfolding beyond
  is_within h k = rw (false-lt h, false-lt k)

-- a range about 0
pub not-larger : (most : ℕ) (z : ℤ) → beyond (neg_ℤ (pos most)) (pos most) z ≡ false → nat_abs z ≤ most
not-larger most z e = let t = not_beyond (neg_ℤ (pos most)) (pos most) z e in size-between z most t.0 t.1

pub is-small : (most : ℕ) (z : ℤ) → nat_abs z ≤ most → beyond (neg_ℤ (pos most)) (pos most) z ≡ false
is-small most z h = is_within (neg_ℤ (pos most)) (pos most) z (size_low z most h) (size-high z most h)
