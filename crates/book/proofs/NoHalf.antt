-- No half comes up between rows that stand 5, 10 or 15 degrees apart, with values that are multiples of ten hundredths:
-- at a tenth of a degree twice what is left is never the distance between the rows.
use mathlib.Core.Path.{◌≡◌, refl, ap, subst}
use Prim.Native.Nat.{ℕ, ◌+◌, ◌-◌, ◌*◌, ◌/◌, ◌<◌, ◌∣◌}
use native.Mathlib.Nat.{div-mul_cancel, eq_of_mul-eq-mul_right}
use native.Mathlib.Omega.{arith}
use lib.IntN.{ℤ, pos, negsuc, nat_abs, ◌+ℤ◌, ◌-ℤ◌, ◌*ℤ◌}
use Rattle.whole.specs.Round.{Half, round_down, left_over}
use Rattle.whole.proofs.Parts.{up, down, add-law, sub-lawℤ, up-scale, down-scale, eq-at}
use Rattle.whole.proofs.Rounding.{down-and-left}
use Rattle.book.specs.Row.{Row, hundredths, Standing}
use Rattle.book.specs.Line.{on, along_line}
use Rattle.book.specs.NoHalf.{NoHalf, NoHalfOn, InTens, DegreesApart, five, ten, fifteen}

-- a multiple of ten in its two naturals
tens-up : (z : ℤ) → 10 ∣ nat_abs z → up z / 10 * 10 ≡ up z
tens-up (pos n) h = div-mul_cancel 10 h
tens-up (negsuc n) h = refl

tens-down : (z : ℤ) → 10 ∣ nat_abs z → down z / 10 * 10 ≡ down z
tens-down (pos n) h = refl
tens-down (negsuc n) h = div-mul_cancel 10 h

-- x/y of the way, which is part/whole of it, from v to w; halfway after the thousandth q
module _ (v w : ℤ) (x y part whole : ℕ) (some : 0 < whole) (same : part * y ≡ x * whole)
    (half : Half (along_line v w part whole) whole) where
  abbrev q : ℤ
  q = round_down (along_line v w part whole) whole

  abbrev gap : ℤ
  gap = w -ℤ v

  abbrev line : ℤ
  line = v *ℤ pos whole +ℤ gap *ℤ pos part

  -- twice the line, in thousandths, is an odd number of wholes
  odd : 2 * (up q * whole) + whole + 20 * down line ≡ 2 * (down q * whole) + 20 * up line
  odd =
      omega (
        arith,
        eq-at (down-and-left (along_line v w part whole) whole some),
        add-law (q *ℤ pos whole) (pos (left_over (along_line v w part whole) whole)),
        up-scale q whole,
        down-scale q whole,
        up-scale line 10,
        down-scale line 10,
      )

  along : up line + (down v * whole + down gap * part) ≡ down line + (up v * whole + up gap * part)
  along = simp (up-scale, down-scale) at (add-law (v *ℤ pos whole) (gap *ℤ pos part))

  -- the same over the distance between the rows
  over : 20 * (up v * y + up gap * x) + 2 * (down q * y) ≡ 20 * (down v * y + down gap * x) + 2 * (up q * y) + y
  over =
      let a = ap (λ (n : ℕ). n * y) odd in
      let b = ap (λ (n : ℕ). n * y) along in
      let c = ap (λ (n : ℕ). up gap * n) same in
      let d = ap (λ (n : ℕ). down gap * n) same in
      eq_of_mul-eq-mul_right whole some _ _ (omega arith)

  -- and with values that are multiples of ten hundredths
  module _ (tens-v : 10 ∣ nat_abs v) (tens-w : 10 ∣ nat_abs w) where
    over-tens : 200 * (up v / 10 * y + (up w / 10 + down v / 10) * x) + 2 * (down q * y)
        ≡ 200 * (down v / 10 * y + (down w / 10 + up v / 10) * x) + 2 * (up q * y) + y
    over-tens =
        let g = ap (λ (n : ℕ). n * x) (sub-lawℤ w v) in
        let a = ap (λ (n : ℕ). n * y) (tens-up v tens-v) in
        let b = ap (λ (n : ℕ). n * y) (tens-down v tens-v) in
        let c = ap (λ (n : ℕ). n * x) (tens-up v tens-v) in
        let d = ap (λ (n : ℕ). n * x) (tens-down v tens-v) in
        let e = ap (λ (n : ℕ). n * x) (tens-up w tens-w) in
        let f = ap (λ (n : ℕ). n * x) (tens-down w tens-w) in
        omega (arith, over)

-- 200 m is not an odd number of 50, 100 or 150
no-odd : (m n i j : ℕ) {lower upper : Standing} → DegreesApart lower upper →
    let y = upper.at - lower.at in
    200 * m + 2 * (i * y) ≡ 200 * n + 2 * (j * y) + y → ⊥
no-odd m n i j {lower} {upper} apart e = go apart
  where
    at : (k : ℕ) → upper.at ≡ lower.at + k → 200 * m + 2 * (i * k) ≡ 200 * n + 2 * (j * k) + k
    at k f =
        let y : upper.at - lower.at ≡ k = omega arith in
        subst (λ (y : ℕ). 200 * m + 2 * (i * y) ≡ 200 * n + 2 * (j * y) + y) y e

    go : DegreesApart lower upper → ⊥
    go (five f) = omega (arith, at 50 f)
    go (ten f) = omega (arith, at 100 f)
    go (fifteen f) = omega (arith, at 150 f)

-- part/whole of the way is x tenths of a degree of it
pub no-half : (lower upper : Standing) → InTens lower.row → InTens upper.row → DegreesApart lower upper
    → (x part whole : ℕ) → 0 < whole → part * (upper.at - lower.at) ≡ x * whole → (col : ℕ)
    → NoHalf (hundredths lower.row col) (hundredths upper.row col) part whole
no-half lower upper t u apart x part whole some same col half =
    let v = hundredths lower.row col in
    let w = hundredths upper.row col in
    let y = upper.at - lower.at in
    no-odd _ _ _ _ apart (over-tens v w x y part whole some same half (t.at col) (u.at col))

-- on a row nothing is left of a thousandth
pub no-half-on : (r : Row) → NoHalfOn (on r)
no-half-on r col half = omega arith
