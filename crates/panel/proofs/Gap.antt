-- The laws of `gap`: what the loop that finds it needs, and that what it leaves of a number has at most 53 binary
-- digits.
use mathlib.Core.Path.{◌≡◌, sym, ap}
use Prim.Native.Nat.{ℕ, ◌+◌, ◌*◌, ◌-◌, ◌/◌, ◌%◌, ◌^◌, ◌≤◌, ◌<◌}
use native.Mathlib.Nat.{le-div_iff_mul-le, div-lt_iff_lt-mul, lt_of_lt_of_le, le_trans, le_of_eq, not-le_of_lt}
use native.Mathlib.Nat.{lt_of_not-le, div-add-mod', mod-lt, mod-one}
use native.Mathlib.Omega.{arith}
use native.Mathlib.Decide.{dec_lt}
use lib.Pow.{pow_pos, pow_mono, pow-add}
use lib.Ieee.{size}
use lib.Ieee.Digits.{size-lt, size_reaches, size-le}
use lib.Ieee.Fits as fits
use Rattle.panel.specs.Bracket.{gap, step_below, step_above}

-- ---- found by doubling

-- where m / 2 ^ k still has more than 53 digits, one more is dropped
pub gap_more : (m k : ℕ) → 2 ^ 53 ≤ m / 2 ^ k → k + 1 ≤ size m - 53
gap_more m k h =
    let a : 2 ^ 53 * 2 ^ k ≤ m = (le-div_iff_mul-le (pow_pos k)).0 h in
    let b : 2 ^ (53 + k) ≤ m = rw pow-add a in
    let c : 53 + k < size m =
    lt_of_not-le (λ (g : size m ≤ 53 + k). not-le_of_lt (lt_of_lt_of_le (size-lt m) (pow_mono g)) b) in
    omega arith

-- where it has not, that is all
pub gap-reached : (m k : ℕ) → m / 2 ^ k < 2 ^ 53 → k ≤ size m - 53 → 2 ^ k ≡ gap m
unfolding gap
gap-reached m k h l =
    let a : m < 2 ^ 53 * 2 ^ k = (div-lt_iff_lt-mul (pow_pos k)).0 h in
    let b = size-le m (53 + k) (rw pow-add a) in
    let e : k ≡ size m - 53 = omega arith in
    ap (λ (j : ℕ). 2 ^ j) e

-- of 64 digits at most 11 are dropped
pub dropped-few : (m : ℕ) → m < 2 ^ 64 → size m - 53 ≤ 11
dropped-few m h = omega (arith, size-le m 64 h)

-- ---- how large it is, and what it leaves

pub gap-pos : (m : ℕ) → 0 < gap m
unfolding gap
gap-pos m = pow_pos (size m - 53)

pub gap-small : (m : ℕ) → m < 2 ^ 64 → gap m ≤ 2 ^ 53
unfolding gap
gap-small m h = pow_mono {j = 53} (omega (arith, dropped-few m h))

pub kept_small : (m : ℕ) → m / gap m < 2 ^ 53
unfolding gap
kept_small m = fits.kept-lt 53 m

-- where something is left over, digits are dropped, and all of 53 are kept
pub some-dropped : (m : ℕ) → (m % gap m ≡ 0 → ⊥) → 1 ≤ size m - 53
unfolding gap
some-dropped m r = go (dec_lt 0 (size m - 53))
  where
    go : Dec (0 < size m - 53) → 1 ≤ size m - 53
    go (yes s) = s
    go (no f) = let e : size m - 53 ≡ 0 = omega arith in absurd (r (rw e (mod-one m)))

pub kept_full : (m : ℕ) → 1 ≤ size m - 53 → 2 ^ 52 ≤ m / gap m
unfolding gap
kept_full m s =
    let k = size m - 53 in
    (le-div_iff_mul-le (pow_pos k)).1
    (le_trans (le_of_eq (sym (pow-add 2 52 k))) (size_reaches m (52 + k) (omega arith)))

-- ---- the multiples on either side

pub lower-is : (m : ℕ) → m % gap m ≡ 0 → step_below m ≡ m
lower-is m r = omega (arith, div-add-mod' m (gap m))

pub lower-lt : (m : ℕ) → (m % gap m ≡ 0 → ⊥) → step_below m < m
lower-lt m r = omega (arith, div-add-mod' m (gap m))

pub upper-gt : (m : ℕ) → m < step_above m
upper-gt m = omega (arith, div-add-mod' m (gap m), mod-lt m (gap-pos m))
