-- What a double is worth: `HasValue x s a 1` says that x is the whole number a with the sign s. A double is right for
-- z exactly where it is worth z.
use mathlib.Core.Path.{◌≡◌, refl, sym, ap, ◌∙◌, subst}
use mathlib.Core.Bool.{Bool, true, false}
use mathlib.Core.Logic.{◌⊎◌, inl, inr}
use Prim.Native.Nat.{ℕ, zero, suc, ◌+◌, ◌*◌, ◌^◌, ◌≤◌, ◌<◌}
use native.Mathlib.Nat.{mul-one, one-mul, mul_assoc, mul-pos, zero-lt-suc, lt_of_lt_of_le, eq-or-lt_of_le}
use native.Mathlib.Omega.{arith}
use lib.Dec.{T, eqb, eqb→eq}
use lib.Pow.{pow_mono, pow-add, shl_lt}
use lib.IntN.{ℤ, pos, negsuc, nat_abs}
use lib.Ieee.{Float, nan, inf, fin, binary64, up, down, eq, level, fits}
use lib.Ieee.Exact.{HasValue, round_exact}
use lib.Ieee.Back.{whole_unique}
use lib.Ieee.Fits.{down_pos, and_i, and_l, and_r, eq→eqb}
use Rattle.panel.specs.Double.{IsDouble, number_itself, positive_zero}
use Rattle.panel.specs.Right.{IsExact}
use Rattle.panel.specs.Bracket.{double}

-- ---- worth z

abbrev pub negative : ℤ → Bool
negative (pos n) = false
negative (negsuc n) = true

abbrev pub Worth : ℤ → Float → Type 0
Worth z x = HasValue x (negative z) (nat_abs z) 1

pub number_is : (z : ℤ) → number_itself z ≡ fin (negative z) (nat_abs z) (pos 0)
number_is (pos n) = refl
number_is (negsuc n) = refl

pub worth-unique : (z : ℤ) (x y : Float) → IsDouble x → IsDouble y → Worth z x → Worth z y → x ≡ y
worth-unique z x y = whole_unique binary64 x y (negative z) (nat_abs z)

-- two numbers that `eq` holds equal have one size and, but for zero, one sign
level-same : (s t : Bool) (a b : ℕ) → 0 < b → T (level s a t b) → (s ≡ t) × (a ≡ b)
level-same false false a b h g = (refl, eqb→eq a b (and_l (eqb a b) true g))
level-same true true a b h g = (refl, eqb→eq a b (and_l (eqb a b) true g))
level-same false true a b h g =
    absurd (omega (arith, eqb→eq a b (and_l (eqb a b) (eqb a 0) g), eqb→eq a 0 (and_r (eqb a b) (eqb a 0) g)))
level-same true false a b h g =
    absurd (omega (arith, eqb→eq a b (and_l (eqb a b) (eqb a 0) g), eqb→eq a 0 (and_r (eqb a b) (eqb a 0) g)))

same-level : (s : Bool) (a b : ℕ) → a ≡ b → T (level s a s b)
same-level false a b e = and_i (eqb a b) true (eq→eqb e) tt
same-level true a b e = and_i (eqb a b) true (eq→eqb e) tt

equal-value : (x : Float) (t : Bool) (n : ℕ) → T (eq x (fin t (suc n) (pos 0))) → HasValue x t (suc n) 1
unfolding eq
equal-value nan t n h = absurd h
equal-value (inf s) t n h = absurd h
equal-value (fin s m e) t n h =
    rw (mul-one (suc n)) at
    (level-same s t (m * up e * 1) (suc n * 1 * down e)
    (rw (mul-one (suc n)) (mul-pos (zero-lt-suc n) (down_pos e))) h)

value-equal : (x : Float) (t : Bool) (n : ℕ) → HasValue x t n 1 → T (eq x (fin t n (pos 0)))
unfolding eq
value-equal nan t n v = absurd v
value-equal (inf s) t n v = absurd v
value-equal (fin s m e) t n v = rw v.0 (same-level t (m * up e * 1) (n * 1 * down e) (rw (mul-one n) v.1))

pub exact-worth : (z : ℤ) (x : Float) → IsExact z x → Worth z x
exact-worth (pos zero) x r = rw (r.zero refl) (refl, refl)
exact-worth (pos (suc n)) x r = equal-value x false n r.equal
exact-worth (negsuc n) x r = equal-value x true n r.equal

pub worth-exact : (z : ℤ) (x : Float) → IsDouble x → Worth z x → IsExact z x
unfolding fits
worth-exact z x d v =
    record {
      double = d;
      equal = rw (number_is z) (value-equal x (negative z) (nat_abs z) v);
      zero = λ e. worth-unique (pos 0) x positive_zero d tt (subst (λ (z : ℤ). Worth z x) e v) (refl, refl);
    }

-- ---- the double of a whole number of 53 digits and zeros after them

kept-worth : (q k : ℕ) → q < 2 ^ 53 → k ≤ 64 → Worth (pos (q * 2 ^ k)) (double (q * 2 ^ k))
unfolding double
kept-worth q k h l =
    round_exact binary64 false (q * 2 ^ k) 1 q (k + 1074) (zero-lt-suc 0) h
    (lt_of_lt_of_le (shl_lt 53 (k + 1074) h) (pow_mono {j = 2098} (omega arith)))
    (mul_assoc q (2 ^ k) (2 ^ 1074) ∙ ap (λ (j : ℕ). q * j) (sym (pow-add 2 k 1074)) ∙ sym
    (mul-one (q * 2 ^ (k + 1074))))

pub double-worth : (q k : ℕ) → q ≤ 2 ^ 53 → k ≤ 11 → Worth (pos (q * 2 ^ k)) (double (q * 2 ^ k))
double-worth q k h l = go (eq-or-lt_of_le h)
  where
    go : (q ≡ 2 ^ 53) ⊎ (q < 2 ^ 53) → Worth (pos (q * 2 ^ k)) (double (q * 2 ^ k))
    go (inl e) =
        subst (λ (n : ℕ). Worth (pos n) (double n))
        (one-mul (2 ^ (53 + k)) ∙ pow-add 2 53 k ∙ ap (λ (j : ℕ). j * 2 ^ k) (sym e))
        (kept-worth 1 (53 + k) (omega arith) (omega arith))
    go (inr g) = kept-worth q k g (omega arith)
