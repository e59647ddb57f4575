-- `round_away` rounds to the nearest whole number with a half going away from zero, and no other number is so near.
use mathlib.Core.Path.{◌≡◌}
use mathlib.Core.Logic.{⊎_elim}
use Prim.Native.Nat.{ℕ, zero, suc, ◌+◌, ◌-◌, ◌*◌, ◌%◌, ◌≤◌, ◌<◌}
use native.Mathlib.Nat.{div-add-mod', mod-lt, mul-le-mul_right}
use native.Mathlib.Omega.{arith}
use lib.IntN.{ℤ, pos, negsuc, neg_ℤ, nat_abs, ◌-ℤ◌, ◌*ℤ◌}
use lib.Signed.{◌≤ℤ◌, ◌<ℤ◌}
use Rattle.whole.specs.Round.{half_up, round_away, Nearest}
use Rattle.whole.proofs.Parts.{up, down, up_neg, down-neg, sub-lawℤ, up-scale, down-scale, lt_at, nat_abs-is}
use Rattle.whole.proofs.Order.{≤ℤ-or-<ℤ, ≤ℤ-antisym}
use Rattle.whole.proofs.Size.{nat_abs-neg}

-- ---- how far off, in naturals

nat_abs-gap : (z : ℤ) → nat_abs z ≡ (up z - down z) + (down z - up z)
nat_abs-gap (pos n) = omega arith
nat_abs-gap (negsuc n) = omega arith

pub off : (z : ℤ) (d : ℕ) (r : ℤ)
    → nat_abs (r *ℤ pos d -ℤ z) ≡ (up r * d + down z - (down r * d + up z)) + (down r * d + up z - (up r * d + down z))
off z d r = omega (arith, nat_abs-gap (r *ℤ pos d -ℤ z), sub-lawℤ (r *ℤ pos d) z, up-scale r d, down-scale r d)

-- ---- `round_away` is so rounded

pub half-near : (n d : ℕ) → 0 < d → (2 * (half_up n d * d) ≤ 2 * n + d) × (2 * n < 2 * (half_up n d * d) + d)
unfolding half_up
half-near n d h =
    let e = div-add-mod' (2 * n + d) (2 * d) in
    let l : (2 * n + d) % (2 * d) < 2 * d = mod-lt (2 * n + d) (omega arith) in
    (omega arith, omega arith)

pub round_away-nearest : (z : ℤ) (d : ℕ) → 0 < d → Nearest z d (round_away z d)
unfolding round_away
round_away-nearest (pos n) d h =
    let k = half-near n d h in
    let o = off (pos n) d (pos (half_up n d)) in
    record { near = omega arith; away = λ e. omega arith }
round_away-nearest (negsuc n) d h =
    let k = half-near (suc n) d h in
    let r = neg_ℤ (pos (half_up (suc n) d)) in
    let o = rw (up_neg, down-neg) at (off (negsuc n) d r) in
    record { near = omega arith; away = λ e. rw nat_abs-neg (omega arith) }

-- ---- and no other number is

module _ (z : ℤ) (d : ℕ) (h : 0 < d) where
  -- of two such numbers neither is the less: it would lie a half below z / d and the other a half above, so that one
  -- of the two is nearer to zero
  module _ (r s : ℤ) (v : Nearest z d r) (w : Nearest z d s) (l : r <ℤ s) where
    lesser-half : 2 * nat_abs (r *ℤ pos d -ℤ z) ≡ d
    lesser-half = omega (arith, mul-le-mul_right d (lt_at r s l), off z d r, off z d s)

    greater-half : 2 * nat_abs (s *ℤ pos d -ℤ z) ≡ d
    greater-half = omega (arith, mul-le-mul_right d (lt_at r s l), off z d r, off z d s)

  not-less : (r s : ℤ) → Nearest z d r → Nearest z d s → r <ℤ s → ⊥
  not-less (pos a) s v w l =
      let m = mul-le-mul_right d (lt_at (pos a) s l) in
      let k = v.away (lesser-half (pos a) s v w l) in
      omega (arith, off z d (pos a), off z d s, nat_abs-is z)
  not-less (negsuc a) (pos (suc b)) v w l = omega (arith, off z d (negsuc a), off z d (pos (suc b)))
  not-less (negsuc a) (pos zero) v w l =
      let k = w.away (greater-half (negsuc a) (pos 0) v w l) in
      omega (arith, off z d (negsuc a), off z d (pos 0), nat_abs-is z)
  not-less (negsuc a) (negsuc b) v w l =
      let m = mul-le-mul_right d (lt_at (negsuc a) (negsuc b) l) in
      let k = w.away (greater-half (negsuc a) (negsuc b) v w l) in
      omega (arith, off z d (negsuc a), off z d (negsuc b), nat_abs-is z)

  nearest-le : (r s : ℤ) → Nearest z d r → Nearest z d s → s ≤ℤ r
  nearest-le r s v w = ⊎_elim (λ l. l) (λ g. absurd (not-less r s v w g)) (≤ℤ-or-<ℤ s r)

  pub nearest-unique : (r s : ℤ) → Nearest z d r → Nearest z d s → r ≡ s
  nearest-unique r s v w = ≤ℤ-antisym (nearest-le s r w v) (nearest-le r s v w)

  pub nearest-round_away : (r : ℤ) → Nearest z d r → r ≡ round_away z d
  nearest-round_away r v = nearest-unique r (round_away z d) v (round_away-nearest z d h)
