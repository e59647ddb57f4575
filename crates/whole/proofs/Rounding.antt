-- Rounding keeps the order, moves no whole number, and a quotient rounded down is the one that leaves less than the
-- divisor.
use mathlib.Core.Path.{◌≡◌, refl, sym, ◌∙◌, ap}
use mathlib.Core.Logic.{◌⊎◌, inl, inr}
use Prim.Native.Nat.{ℕ, zero, suc, ◌+◌, ◌-◌, ◌*◌, ◌/◌, ◌%◌, ◌≤◌, ◌<◌}
use native.Mathlib.Nat.{div-eq_of_lt-le, div-le_of_le-mul, mul-le-mul_right, div-add-mod', mod-lt, zero-mul}
use native.Mathlib.Omega.{arith}
use lib.IntN.{ℤ, pos, negsuc, neg_ℤ, nat_abs, ◌+ℤ◌, ◌-ℤ◌, ◌*ℤ◌, +ℤ_idl}
use lib.Signed.{◌≤ℤ◌, ◌<ℤ◌}
use Rattle.std.specs.Int.{int_div_euclid, int_rem_euclid}
use Rattle.whole.specs.Round.{half_up, round_away, round_down, left_over}
use Rattle.whole.proofs.Parts.{order, add-law, up_neg, down-neg, up-scale, down-scale, le-by, lt_at, eq-by}
use Rattle.whole.proofs.Parts.{eq-at}
use Rattle.whole.proofs.Order.{≤ℤ-or-<ℤ, ≤ℤ-antisym}
use Rattle.whole.proofs.Size.{div_mono}

-- ---- to the nearest

pub half_up-mono : (d : ℕ) {m n : ℕ} → m ≤ n → half_up m d ≤ half_up n d
unfolding half_up
half_up-mono d {m} {n} h = div_mono (2 * d) {m = 2 * m + d} {n = 2 * n + d} (omega arith)

-- rounding to a whole number makes none larger by more than one
pub half_up-le : (n d : ℕ) → 0 < d → half_up n d ≤ n + 1
unfolding half_up
half_up-le n d h = div-le_of_le-mul (2 * d) {m = 2 * n + d} {n = n + 1} (omega (arith, mul-le-mul_right n h))

pub half_up-exact : (k d : ℕ) → 0 < d → half_up (k * d) d ≡ k
unfolding half_up
half_up-exact k d h = div-eq_of_lt-le {k = k} (2 * d) {m = 2 * (k * d) + d} (omega arith) (omega arith)

pub round_away-mono : (d : ℕ) (x y : ℤ) → x ≤ℤ y → round_away x d ≤ℤ round_away y d
unfolding round_away
round_away-mono d (pos m) (pos n) h = le-by _ _ (omega (arith, half_up-mono d {m = m} {n = n} (omega (arith, order))))
round_away-mono d (pos m) (negsuc n) h = absurd (omega (arith, order))
round_away-mono d (negsuc m) (pos n) h =
    le-by _ _ (omega (arith, up_neg (pos (half_up (suc m) d)), down-neg (pos (half_up (suc m) d))))
round_away-mono d (negsuc m) (negsuc n) h =
    le-by _ _
    (omega (
      arith,
      half_up-mono d {m = suc n} {n = suc m} (omega (arith, order)),
      up_neg (pos (half_up (suc m) d)),
      down-neg (pos (half_up (suc m) d)),
      up_neg (pos (half_up (suc n) d)),
      down-neg (pos (half_up (suc n) d)),
    ))

round_away-neg : (n d : ℕ) → 0 < d → round_away (neg_ℤ (pos n)) d ≡ neg_ℤ (pos (half_up n d))
unfolding round_away
round_away-neg zero d h = ap pos none ∙ sym (ap (λ (k : ℕ). neg_ℤ (pos k)) none)
  where
    none : half_up 0 d ≡ 0
    none = ap (λ (n : ℕ). half_up n d) (sym (zero-mul d)) ∙ half_up-exact 0 d h
round_away-neg (suc n) d h = refl

pub round_away-exact : (z : ℤ) (d : ℕ) → 0 < d → round_away (z *ℤ pos d) d ≡ z
unfolding round_away
round_away-exact (pos k) d h = ap pos (half_up-exact k d h)
round_away-exact (negsuc k) d h =
    round_away-neg (suc k * d) d h ∙ ap (λ (n : ℕ). neg_ℤ (pos n)) (half_up-exact (suc k) d h)

-- the two branches of code that rounds sizes
pub round-below : (z : ℤ) (d : ℕ) → z <ℤ pos 0 → round_away z d ≡ pos 0 -ℤ pos (half_up (nat_abs z) d)
unfolding round_away
round-below (pos n) d h = absurd (omega (arith, order))
round-below (negsuc n) d h = sym (+ℤ_idl (neg_ℤ (pos (half_up (suc n) d))))

pub round-above : (z : ℤ) (d : ℕ) → pos 0 ≤ℤ z → round_away z d ≡ pos (half_up (nat_abs z) d)
unfolding round_away
round-above (pos n) d h = refl
round-above (negsuc n) d h = absurd (omega (arith, order))

-- ---- down

pub left_over-small : (z : ℤ) (d : ℕ) → 0 < d → left_over z d < d
unfolding left_over
left_over-small (pos n) d h = mod-lt n h
left_over-small (negsuc n) d h = omega arith

pub down-and-left : (z : ℤ) (d : ℕ) → 0 < d → round_down z d *ℤ pos d +ℤ pos (left_over z d) ≡ z
unfolding round_down left_over
down-and-left (pos n) d h = ap pos (div-add-mod' n d)
down-and-left (negsuc n) d h =
    eq-by _ _
    (omega (
      arith,
      add-law (negsuc (n / d) *ℤ pos d) (pos (d - 1 - n % d)),
      up-scale (negsuc (n / d)) d,
      down-scale (negsuc (n / d)) d,
      div-add-mod' n d,
      mod-lt n h,
    ))

-- the library's names for both
pub down_euclid : (z : ℤ) (d : ℕ) → int_div_euclid z (pos d) ≡ round_down z d
unfolding round_down
down_euclid (pos n) d = refl
down_euclid (negsuc n) d = refl

pub left_euclid : (z : ℤ) (d : ℕ) → int_rem_euclid z (pos d) ≡ pos (left_over z d)
unfolding left_over
left_euclid (pos n) d = refl
left_euclid (negsuc n) d = refl

-- no other quotient leaves less than the divisor
quotient_le : (x y : ℤ) (r s d : ℕ) → s < d → x *ℤ pos d +ℤ pos r ≡ y *ℤ pos d +ℤ pos s → x ≤ℤ y
quotient_le x y r s d h e = go (≤ℤ-or-<ℤ x y)
  where
    go : (x ≤ℤ y) ⊎ (y <ℤ x) → x ≤ℤ y
    go (inl l) = l
    go (inr g) =
        absurd
        (omega (
          arith,
          eq-at e,
          add-law (x *ℤ pos d) (pos r),
          add-law (y *ℤ pos d) (pos s),
          up-scale x d,
          down-scale x d,
          up-scale y d,
          down-scale y d,
          mul-le-mul_right d (lt_at y x g),
        ))

sum-cancel : (x : ℤ) (r s : ℕ) → x +ℤ pos r ≡ x +ℤ pos s → r ≡ s
sum-cancel x r s e = omega (arith, eq-at e, add-law x (pos r), add-law x (pos s))

pub down-unique : (q : ℤ) (r : ℕ) (z : ℤ) (d : ℕ) → r < d → q *ℤ pos d +ℤ pos r ≡ z
    → (q ≡ round_down z d) × (r ≡ left_over z d)
down-unique q r z d h e =
    let f : q *ℤ pos d +ℤ pos r ≡ round_down z d *ℤ pos d +ℤ pos (left_over z d) =
    e ∙ sym (down-and-left z d (omega arith)) in
    let s = left_over-small z d (omega arith) in
    let same =
    ≤ℤ-antisym (quotient_le q (round_down z d) r (left_over z d) d s f)
    (quotient_le (round_down z d) q (left_over z d) r d h (sym f)) in
    (same, sum-cancel (round_down z d *ℤ pos d) r (left_over z d) (ap (λ (x : ℤ). x *ℤ pos d +ℤ pos r) (sym same) ∙ f))
