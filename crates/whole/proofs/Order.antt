-- The order of ℤ: total, transitive, kept by sums and by factors that are not negative; and what a signed test says.
use mathlib.Core.Path.{◌≡◌, refl, sym, ap, ◌∙◌}
use mathlib.Core.Logic.{◌⊎◌, inl, inr}
use mathlib.Core.Bool.{Bool, true, false, true≢false}
use Prim.Native.Nat.{ℕ, ◌*◌}
use native.Mathlib.Nat.{mul-le-mul_right}
use native.Mathlib.Omega.{arith}
use lib.IntN.{ℤ, pos, ◌+ℤ◌, ◌*ℤ◌}
use lib.Signed.{lt_z, le_z, ◌≤ℤ◌, ◌<ℤ◌, lt_z_yes, lt_z_no, clash_ℤ}
use Rattle.whole.proofs.Parts.{up, down, order, add-law, up-mul, down-mul, up-scale, down-scale, eq-by, le-at}
use Rattle.whole.proofs.Parts.{le-by, lt_by}
use Rattle.whole.proofs.Tests.{holds, fails, is_true, is_false}

-- ---- a signed test, and the order that it decides

pub lt-true : (x y : ℤ) → lt_z x y ≡ true → x <ℤ y
lt-true x y e = lt_z_yes (holds e)

pub lt-false : (x y : ℤ) → lt_z x y ≡ false → y ≤ℤ x
lt-false x y e = lt_z_no (fails e)

pub true-lt : {x y : ℤ} → x <ℤ y → lt_z x y ≡ true
true-lt {x} {y} h = is_true (lt_z x y) h.lt

pub false-lt : {x y : ℤ} → y ≤ℤ x → lt_z x y ≡ false
false-lt {x} {y} h = is_false (lt_z x y) (λ t. clash_ℤ (lt_z_yes {a = x} {b = y} t) h)

-- ---- the order by itself

pub ≤ℤ-trans : {x y z : ℤ} → x ≤ℤ y → y ≤ℤ z → x ≤ℤ z
≤ℤ-trans {x} {y} {z} h k = omega (arith, order)

pub ≤ℤ-antisym : {x y : ℤ} → x ≤ℤ y → y ≤ℤ x → x ≡ y
≤ℤ-antisym {x} {y} h k = omega (arith, order)

pub <ℤ-≤ℤ : {x y : ℤ} → x <ℤ y → x ≤ℤ y
<ℤ-≤ℤ {x} {y} h = omega (arith, order)

pub ≤ℤ-or-<ℤ : (x y : ℤ) → (x ≤ℤ y) ⊎ (y <ℤ x)
≤ℤ-or-<ℤ x y = go (lt_z y x) refl
  where
    go : (t : Bool) → lt_z y x ≡ t → (x ≤ℤ y) ⊎ (y <ℤ x)
    go true e = inr (lt-true y x e)
    go false e = inl (lt-false y x e)

-- a test for no greater
pub le-true : (x y : ℤ) → le_z x y ≡ true → x ≤ℤ y
le-true x y e = record { le = holds e }

pub le-false : (x y : ℤ) → le_z x y ≡ false → y <ℤ x
le-false x y e = go (≤ℤ-or-<ℤ x y)
  where
    go : (x ≤ℤ y) ⊎ (y <ℤ x) → y <ℤ x
    go (inl h) = absurd (true≢false (sym (is_true (le_z x y) h.le) ∙ e))
    go (inr h) = h

-- ---- with sums and products

-- adding one number to both sides moves no test
pub lt_z-+ℤ : (x y z : ℤ) → lt_z (x +ℤ z) (y +ℤ z) ≡ lt_z x y
lt_z-+ℤ x y z = go (lt_z x y) refl
  where
    go : (t : Bool) → lt_z x y ≡ t → lt_z (x +ℤ z) (y +ℤ z) ≡ t
    go true e = true-lt (lt_by (x +ℤ z) (y +ℤ z) (omega (arith, order, lt-true x y e, add-law x z, add-law y z)))
    go false e = false-lt (le-by (y +ℤ z) (x +ℤ z) (omega (arith, order, lt-false x y e, add-law x z, add-law y z)))

pub *ℤ-mono : {x y : ℤ} (n : ℕ) → x ≤ℤ y → (x *ℤ pos n) ≤ℤ (y *ℤ pos n)
*ℤ-mono {x} {y} n h =
    le-by _ _ (simp (up-scale, down-scale) (omega (arith, mul-le-mul_right n (le-at x y h))))

-- each product is multiplied out by `omega`
pub *ℤ-+ℤ : (x y z : ℤ) → (x +ℤ y) *ℤ z ≡ x *ℤ z +ℤ y *ℤ z
*ℤ-+ℤ x y z =
    omega (
      arith,
      order,
      up-mul (x +ℤ y) z,
      down-mul (x +ℤ y) z,
      add-law (x *ℤ z) (y *ℤ z),
      up-mul x z,
      down-mul x z,
      up-mul y z,
      down-mul y z,
      ap (λ (n : ℕ). n * up z) (add-law x y),
      ap (λ (n : ℕ). n * down z) (add-law x y),
    )

pub *ℤ-assoc : (x y z : ℤ) → (x *ℤ y) *ℤ z ≡ x *ℤ (y *ℤ z)
*ℤ-assoc x y z = eq-by _ _ (simp (up-mul, down-mul) (omega arith))
