-- The order of doubles beside whole numbers: what is worth a whole number stands where that number stands, and
-- between two neighbours of 53 digits there is no room.
use mathlib.Core.Path.{◌≡◌, refl, sym, ap, ◌∙◌}
use mathlib.Core.Bool.{Bool, true, false, not, ◌&&◌, true≢false}
use Prim.Native.Nat.{ℕ, zero, suc, ◌+◌, ◌*◌, ◌-◌, ◌%◌, ◌^◌, ◌≤◌, ◌<◌}
use native.Mathlib.Nat.{mul-one, mul_assoc, mul_right_comm, mul-pos, zero-mul, add-mul, le_trans, le_of_eq}
use native.Mathlib.Nat.{mul-le-mul, mul-le-mul_left, mul-le-mul_right, mul-lt-mul_of_pos_right}
use native.Mathlib.Nat.{lt_of_mul-lt-mul_right, pow-suc, sub-add_cancel}
use native.Mathlib.Omega.{arith}
use native.Mathlib.Decide.{dec_lt}
use borrow.Author.Tests.{lt-ltb, le-ltb, ltb-false}
use lib.Dec.{T, ltb, leb, eqb, lt→ltb, ltb→lt}
use lib.Pow.{pow_pos, pow_mono, pow-add}
use lib.IntN.{ℤ, pos, negsuc, nat_abs}
use lib.Ieee.{Float, nan, inf, fin, up, down, below, lt, neg, fits}
use lib.Ieee.Exact.{HasValue}
use lib.Ieee.Fits.{down_pos, and_l, and_r}
use Rattle.panel.specs.Double.{IsDouble, number_itself}
use Rattle.panel.proofs.Worth.{Worth, negative, number_is}
use Rattle.panel.proofs.Negative.{lt-neg, value-neg}

-- ---- what is worth z stands where z stands

ltb-scale : (a b k : ℕ) → 0 < k → ltb (a * k) (b * k) ≡ ltb a b
ltb-scale a b k h = go (dec_lt a b)
  where
    go : Dec (a < b) → ltb (a * k) (b * k) ≡ ltb a b
    go (yes l) = lt-ltb (a * k) (b * k) (mul-lt-mul_of_pos_right l h) ∙ sym (lt-ltb a b l)
    go (no f) = let g : b ≤ a = omega arith in le-ltb (a * k) (b * k) (mul-le-mul_right k g) ∙ sym (le-ltb a b g)

below-scale : (s : Bool) (a : ℕ) (t : Bool) (b k : ℕ) → 0 < k → below s (a * k) t (b * k) ≡ below s a t b
below-scale false a false b k h = ltb-scale a b k h
below-scale false a true b k h = refl
below-scale true a false b k h =
    ap (λ (j : ℕ). ltb j (a * k + b * k)) (sym (zero-mul k))
    ∙ ap (ltb (0 * k)) (sym (add-mul a b k))
    ∙ ltb-scale 0 (a + b) k h
below-scale true a true b k h = ltb-scale b a k h

-- by both denominators: m / 1 with the factor x
cross : (n u a w x : ℕ) → n * u * 1 ≡ a * w → n * u * x ≡ a * 1 * x * w
cross n u a w x h = rw (mul-one a) (ap (λ (j : ℕ). j * x) (sym (mul-one (n * u)) ∙ h) ∙ mul_right_comm a w x)

lt-value : (w y : Float) (s : Bool) (a : ℕ) → HasValue y s a 1 → lt w y ≡ lt w (fin s a (pos 0))
unfolding lt
lt-value w nan s a v = absurd v
lt-value w (inf t) s a v = absurd v
lt-value nan (fin t n d) s a v = refl
lt-value (inf r) (fin t n d) s a v = refl
lt-value (fin r m e) (fin t n d) s a v =
    rw (v.0, cross n (up d) a (down d) (down e) v.1, mul-one (m * up e))
    (below-scale r (m * up e) s (a * 1 * down e) (down d) (down_pos d))

pub lt-worth : (z : ℤ) (w y : Float) → Worth z y → lt w y ≡ lt w (number_itself z)
lt-worth z w y v = rw (number_is z) (lt-value w y (negative z) (nat_abs z) v)

pub worth-lt : (z : ℤ) (y w : Float) → Worth z y → lt y w ≡ lt (number_itself z) w
unfolding neg
worth-lt z y w v =
    rw (number_is z)
    (sym (lt-neg w y) ∙ lt-value (neg w) (neg y) (not (negative z)) (nat_abs z) (value-neg y (negative z) (nat_abs z) v)
    ∙ lt-neg w (fin (negative z) (nat_abs z) (pos 0)))

-- ---- a double on one side of n is on that side of whatever lies beyond n

pub lt-number-le : (w : Float) (a b : ℕ) → a ≤ b → T (lt w (number_itself (pos a))) → T (lt w (number_itself (pos b)))
unfolding lt
lt-number-le nan a b h t = t
lt-number-le (inf s) a b h t = t
lt-number-le (fin false m e) a b h t =
    lt→ltb (m * up e * 1) (b * 1 * down e)
    (omega (arith, ltb→lt (m * up e * 1) (a * 1 * down e) t, mul-le-mul_right (down e) h))
lt-number-le (fin true m e) a b h t =
    lt→ltb 0 (m * up e * 1 + b * 1 * down e)
    (omega (arith, ltb→lt 0 (m * up e * 1 + a * 1 * down e) t, mul-le-mul_right (down e) h))

pub le-number-lt : (w : Float) (a b : ℕ) → a ≤ b → T (lt (number_itself (pos b)) w) → T (lt (number_itself (pos a)) w)
unfolding lt
le-number-lt nan a b h t = t
le-number-lt (inf s) a b h t = t
le-number-lt (fin false m e) a b h t =
    lt→ltb (a * 1 * down e) (m * up e * 1)
    (omega (arith, ltb→lt (b * 1 * down e) (m * up e * 1) t, mul-le-mul_right (down e) h))
le-number-lt (fin true m e) a b h t = t

-- a number that stands neither below a nor above it is worth a
pub worth-by-order : (w : Float) (a : ℕ) → 0 < a → (w ≡ nan → ⊥) → lt w (number_itself (pos a)) ≡ false
    → lt (number_itself (pos a)) w ≡ false → Worth (pos a) w
unfolding lt
worth-by-order nan a p n u o = n refl
worth-by-order (inf true) a p n u o = true≢false u
worth-by-order (inf false) a p n u o = true≢false o
worth-by-order (fin true m e) a p n u o =
    absurd (omega (arith, ltb-false 0 (m * up e * 1 + a * 1 * down e) u, mul-pos p (down_pos e)))
worth-by-order (fin false m e) a p n u o =
    (refl, omega (arith, ltb-false (a * 1 * down e) (m * up e * 1) o, ltb-false (m * up e * 1) (a * 1 * down e) u))

-- ---- no double between neighbours

second : (a b c d : Bool) → T (a && b && c && d) → T b
second a b c d t = and_r a b (and_l (a && b) c (and_l (a && b && c) d t))

double-digits : (s : Bool) (n : ℕ) (e : ℤ) → IsDouble (fin s n e) → n < 2 ^ 53
unfolding fits
double-digits s zero e t = omega arith
double-digits s (suc n) e t =
    ltb→lt (suc n) (2 ^ 53)
    (second (eqb (suc n % 2) 1) (ltb (suc n) (2 ^ 53)) (leb (down e) (2 ^ 1074))
    (ltb (suc n * up e) (2 ^ 1024 * down e)) t)

-- n * 2 ^ d, with n of 53 digits, does not lie strictly between q * 2 ^ k and (q + 1) * 2 ^ k, with a q that has all
-- of 53
no_room : (n : ℕ) (d : ℤ) (q k : ℕ) → n < 2 ^ 53 → 2 ^ 52 ≤ q → 1 ≤ k → q * 2 ^ k * down d < n * up d
    → n * up d < (q + 1) * 2 ^ k * down d → ⊥
no_room n (negsuc j) q k h a b l g =
    omega (
      arith,
      mul-le-mul a (pow_mono {i = 1} b),
      mul-le-mul_left (q * 2 ^ k) (pow_pos (suc j)),
    )
no_room n (pos j) q k h a b l g = go (dec_lt j k)
  where
    go : Dec (j < k) → ⊥
    go (yes s) =
        let y : 2 ^ j * 2 ≤ 2 ^ k = le_trans (le_of_eq (sym (pow-suc 2 j))) (pow_mono s) in
        omega (arith, l, mul-lt-mul_of_pos_right h (pow_pos j), mul-le-mul_right (2 ^ k) a)
    go (no f) =
        let e : n * 2 ^ (j - k) * 2 ^ k ≡ n * 2 ^ j =
        mul_assoc n (2 ^ (j - k)) (2 ^ k)
        ∙ ap (λ (i : ℕ). n * i)
        (sym (pow-add 2 (j - k) k) ∙ ap (λ (i : ℕ). 2 ^ i) (sub-add_cancel (omega arith))) in
        let x : q < n * 2 ^ (j - k) = lt_of_mul-lt-mul_right (2 ^ k) (omega (arith, l)) in
        let y : n * 2 ^ (j - k) < q + 1 = lt_of_mul-lt-mul_right (2 ^ k) (omega (arith, g)) in
        omega arith

pub none_between : (q k : ℕ) → 2 ^ 52 ≤ q → 1 ≤ k
    → (x : Float) → IsDouble x → T (lt (number_itself (pos (q * 2 ^ k))) x)
    → T (lt x (number_itself (pos ((q + 1) * 2 ^ k)))) → ⊥
unfolding lt
none_between q k a b nan d l h = l
none_between q k a b (inf true) d l h = l
none_between q k a b (inf false) d l h = h
none_between q k a b (fin true i j) d l h = l
none_between q k a b (fin false i j) d l h =
    no_room i j q k (double-digits false i j d) a b
    (omega (arith, ltb→lt (q * 2 ^ k * 1 * down j) (i * up j * 1) l))
    (omega (arith, ltb→lt (i * up j * 1) ((q + 1) * 2 ^ k * 1 * down j) h))
