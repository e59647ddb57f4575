-- A product of two doubles that are whole numbers up to 2 ^ 53 is the double of the product, so the code's products
-- are those of `of_size`.
use mathlib.Core.Path.{◌≡◌, refl, sym, ap, ◌∙◌}
use mathlib.Core.Bool.{Bool, false}
use Prim.Native.Nat.{ℕ, ◌+◌, ◌*◌, ◌/◌, ◌%◌, ◌^◌, ◌≤◌, ◌<◌}
use native.Mathlib.Nat.{mul_assoc, mul_left_comm, mul-one, mul-pos, zero-lt-suc, le_of_lt}
use native.Mathlib.Omega.{arith}
use borrow.Author.Tests.{eq-eqb, ne_eqb}
use lib.Dec.{T, le→leb}
use lib.IntN.{pos}
use lib.Ieee.{Float, nan, inf, fin, binary64, up, down, mul, round, of_int, in_float}
use lib.Ieee.Exact.{HasValue}
use lib.Ieee.Back.{round_whole}
use lib.Ieee.Scale.{round_same}
use lib.Ieee.Fits.{down_pos}
use Rattle.panel.specs.declared.Panel.TheVariants.{Exact, Between}
use Rattle.panel.specs.Bracket.{gap, double, step_below, step_above, of_size}
use Rattle.panel.proofs.Gap.{gap-small, kept_small, lower-is}

-- the cast to a double that the code does
pub cast-exact : (n : ℕ) → n ≤ 2 ^ 53 → T (in_float binary64 (pos n))
unfolding in_float
cast-exact n h = le→leb n (2 ^ 53) h

value-mul : (x y : Float) (a b : ℕ) → HasValue x false a 1 → HasValue y false b 1 → mul binary64 x y ≡ double (a * b)
unfolding mul double
value-mul nan y a b p q = absurd p
value-mul (inf s) y a b p q = absurd p
value-mul (fin s m e) nan a b p q = absurd q
value-mul (fin s m e) (inf t) a b p q = absurd q
value-mul (fin s m e) (fin t n d) a b p q =
    let u : m * up e ≡ a * down e = simp mul-one at p.1 in
    let v : n * up d ≡ b * down d = simp mul-one at q.1 in
    let w : m * up e * (n * up d) * 1 ≡ a * b * (down e * down d) =
    rw (u, v) (simp (mul-one, mul_assoc, mul_left_comm)) in
    ap (λ (r : Bool). round binary64 r (m * up e * (n * up d)) (down e * down d)) (rw (p.0, q.0) refl)
    ∙ round_same binary64 false (m * up e * (n * up d)) (down e * down d) (a * b) 1
    (mul-pos (down_pos e) (down_pos d)) (zero-lt-suc 0) w

abbrev pub scaled : ℕ → ℕ → Float
scaled q p = mul binary64 (of_int binary64 (pos q)) (of_int binary64 (pos p))

scaled-is : (q p : ℕ) → q ≤ 2 ^ 53 → p ≤ 2 ^ 53 → scaled q p ≡ double (q * p)
unfolding of_int
scaled-is q p h k =
    value-mul (round binary64 false q 1) (round binary64 false p 1) q p (round_whole binary64 false q h)
    (round_whole binary64 false p k)

-- ---- the two cases of `of_size`, as defined and as the code returns them for its p, which is the gap

pub size_exact : (m : ℕ) → m % gap m ≡ 0 → of_size m ≡ Exact (double m)
unfolding of_size
size_exact m r = rw (eq-eqb (m % gap m) 0 r)

pub size-between : (m : ℕ) → (m % gap m ≡ 0 → ⊥) → of_size m ≡ Between (double (step_below m)) (double (step_above m))
unfolding of_size
size-between m r = rw (ne_eqb (m % gap m) 0 r)

module _ (m : ℕ) (h : m < 2 ^ 64) where
  low-is : scaled (m / gap m) (gap m) ≡ double (step_below m)
  low-is = scaled-is (m / gap m) (gap m) (le_of_lt (kept_small m)) (gap-small m h)

  high_is : scaled (m / gap m + 1) (gap m) ≡ double (step_above m)
  high_is = scaled-is (m / gap m + 1) (gap m) (omega (arith, kept_small m)) (gap-small m h)

  pub exact-is : (p : ℕ) → p ≡ gap m → m % p ≡ 0 → Exact (scaled (m / p) p) ≡ of_size m
  exact-is p e z =
      let r : m % gap m ≡ 0 = rw e at z in
      rw e (ap Exact (low-is ∙ ap double (lower-is m r)) ∙ sym (size_exact m r))

  pub between_is : (p : ℕ) → p ≡ gap m → (m % p ≡ 0 → ⊥)
      → Between (scaled (m / p) p) (scaled (m / p + 1) p) ≡ of_size m
  between_is p e z = rw e (rw (low-is, high_is) (sym (size-between m (rw e at z))))
