-- How large a signed number is, and what the machine has of it. A signed local holds bits, so a goal shows it nested:
-- `to_z w (of_z w (to_z w (of_z w x) *ℤ ..))`.
-- `Num` is such a value with the number that it is and the most that it is in size. It is built as the code is, one
-- law for each operation, and then answers that the result fits (`fit`) and what it is (`.same`).
use mathlib.Core.Path.{◌≡◌, refl, sym, ◌∙◌, ap, ap₂, subst, subst₂}
use mathlib.Core.Logic.{⊎_elim}
use Prim.Native.Nat.{ℕ, zero, suc, ◌+◌, ◌-◌, ◌*◌, ◌/◌, ◌^◌, ◌≤◌, ◌<◌}
use native.Mathlib.Nat.{le_trans, le_refl, mul-le-mul, lt_of_le_of_lt, le-div_iff_mul-le, div-mul-le_self, div-zero}
use native.Mathlib.Omega.{arith}
use mathlib.Core.Bool.{Bool, true, false}
use lib.Dec.{T, ltb, ltb→lt}
use lib.IntN.{ℤ, pos, negsuc, neg_ℤ, nat_abs, ◌+ℤ◌, ◌-ℤ◌, ◌*ℤ◌}
use lib.Signed.{mag, quot_z, nat_abs-le, non_neg, yes_non_neg, pos-nat_abs, ◌≤ℤ◌, ◌<ℤ◌, lt_z}
use mir.Syntax.{Width, w64}
use mir.Val.{SFits, Fits, hbits, bits, to_z, of_z}
use mir.Facts.{to_z-of_z, to_z_pos}
use Rattle.whole.proofs.Parts.{le-at, le-by, add-law, up_neg, down-neg, up-mul, down-mul, one-is-zero}
use Rattle.whole.proofs.Parts.{nat_abs-is, sub-lawℤ, eq-by, lt_at, lt_by}
use Rattle.whole.proofs.Order.{lt-true, lt-false}

pub nat_abs-neg : (z : ℤ) → nat_abs (neg_ℤ z) ≡ nat_abs z
nat_abs-neg z = omega (arith, nat_abs-is z, nat_abs-is (neg_ℤ z), up_neg z, down-neg z)

pub nat_abs-add : (x y : ℤ) → nat_abs (x +ℤ y) ≤ nat_abs x + nat_abs y
nat_abs-add x y =
    ⊎_elim (λ h. omega (arith, add-law x y, nat_abs-is x, nat_abs-is y, nat_abs-is (x +ℤ y)))
    (λ h. omega (arith, add-law x y, nat_abs-is x, nat_abs-is y, nat_abs-is (x +ℤ y))) (one-is-zero (x +ℤ y))

-- one more than a number below zero is no larger
pub rise-small : (z : ℤ) {k : ℕ} → z <ℤ pos 0 → nat_abs z ≤ k + 1 → nat_abs (z +ℤ pos 1) ≤ k
rise-small z {k} h g =
    let n = z +ℤ pos 1 in
    ⊎_elim (λ e. omega (arith, lt_at _ _ h, nat_abs-is z, nat_abs-is n, add-law z (pos 1)))
    (λ e. omega (arith, lt_at _ _ h, nat_abs-is z, nat_abs-is n, add-law z (pos 1))) (one-is-zero n)

-- a number of size k at most lies between -k and k, and the other way
pub size_low : (z : ℤ) (k : ℕ) → nat_abs z ≤ k → neg_ℤ (pos k) ≤ℤ z
size_low z k h = le-by _ _ (omega (arith, nat_abs-is z, up_neg (pos k), down-neg (pos k)))

pub size-high : (z : ℤ) (k : ℕ) → nat_abs z ≤ k → z ≤ℤ pos k
size-high z k h = le-by _ _ (omega (arith, nat_abs-is z))

pub size-between : (z : ℤ) (k : ℕ) → neg_ℤ (pos k) ≤ℤ z → z ≤ℤ pos k → nat_abs z ≤ k
size-between z k h g =
    ⊎_elim (λ e. omega (arith, nat_abs-is z, le-at _ _ h, le-at _ _ g, up_neg (pos k), down-neg (pos k)))
    (λ e. omega (arith, nat_abs-is z, le-at _ _ h, le-at _ _ g, up_neg (pos k), down-neg (pos k))) (one-is-zero z)

-- numbers from 0 on are their sizes, and ordered as these
pub size-plain : (z : ℤ) → pos 0 ≤ℤ z → pos (nat_abs z) ≡ z
size-plain z h = pos-nat_abs z (yes_non_neg h)

pub size-rises : (x y : ℤ) → pos 0 ≤ℤ x → x ≤ℤ y → nat_abs x ≤ nat_abs y
size-rises (pos m) (pos n) h k = omega (arith, le-at _ _ k)
size-rises (pos m) (negsuc n) h k = absurd k.le
size-rises (negsuc m) y h k = absurd h.le

pub size-grows : (x y : ℤ) → pos 0 ≤ℤ x → x <ℤ y → nat_abs x < nat_abs y
size-grows (pos m) (pos n) h k = omega (arith, lt_at _ _ k)
size-grows (pos m) (negsuc n) h k = absurd k.lt
size-grows (negsuc m) y h k = absurd h.le

pub size-some : (z : ℤ) → pos 0 ≤ℤ z → 0 < nat_abs z → pos 0 <ℤ z
size-some (pos n) h k = lt_by _ _ (omega arith)
size-some (negsuc n) h k = absurd h.le

pub pos-minus : (m n : ℕ) → n ≤ m → pos m -ℤ pos n ≡ pos (m - n)
pos-minus m n h = eq-by _ _ (omega (arith, sub-lawℤ (pos m) (pos n)))

pub nat_abs_mul : (x y : ℤ) → nat_abs (x *ℤ y) ≡ nat_abs x * nat_abs y
nat_abs_mul x y =
    nat_abs-is (x *ℤ y) ∙ ap₂ ◌+◌ (up-mul x y) (down-mul x y) ∙ omega arith
    ∙ sym (ap₂ ◌*◌ (nat_abs-is x) (nat_abs-is y))

pub nat_abs-quot : (x : ℤ) (d : ℕ) → nat_abs (quot_z x (pos d)) ≡ nat_abs x / d
nat_abs-quot (pos a) d = refl
nat_abs-quot (negsuc a) d = nat_abs-neg (pos (suc a / d))

pub div_mono : (d : ℕ) {m n : ℕ} → m ≤ n → m / d ≤ n / d
div_mono zero {m} {n} h = omega (arith, div-zero m, div-zero n)
div_mono (suc d) {m} {n} h = (le-div_iff_mul-le {k = suc d} (omega arith)).1 (le_trans (div-mul-le_self m (suc d)) h)

pub mag-le : (z : ℤ) → mag z ≤ nat_abs z
mag-le (pos n) = le_refl n
mag-le (negsuc n) = omega arith

-- a machine's number: what stands in the code's goals (`has`), the number that it is (`is`), and the most that it is
-- in size (`most`)
pub record Num : Type 0 where
  pub has : ℤ
  pub is : ℤ
  pub most : ℕ
  pub same : has ≡ is
  pub small : nat_abs is ≤ most

-- the two answers: it fits; and what a local that holds it is read back as (`(back w n t).same`). The bound is a
-- comparison of literals, or a fact (`fit<`, `back<`), as in a loop.
pub fit< : {w : Width} (n : Num) → n.most < 2 ^ hbits w → SFits w n.has
fit< {w} n h =
    subst (λ (v : ℤ). SFits w v) (sym n.same)
    (record { sfits = lt_of_le_of_lt (le_trans (mag-le n.is) n.small) h })

pub fit : {w : Width} (n : Num) → T (ltb n.most (2 ^ hbits w)) → SFits w n.has
fit {w} n t = fit< n (ltb→lt n.most (2 ^ hbits w) t)

-- the ends: a signed parameter with a bound of its own, or that of its width; a natural that was cast; a number as it
-- is
abbrev pub param≤ : {w : Width} {z : ℤ} {k : ℕ} → SFits w z → nat_abs z ≤ k → Num
param≤ {w} {z} {k} f h = record { has = to_z w (of_z w z); is = z; most = k; same = to_z-of_z f; small = h }

abbrev pub param : {w : Width} {z : ℤ} → SFits w z → Num
param {w} {z} f = param≤ f (nat_abs-le z f.sfits)

-- what a call of a function with a signed result gave: `returned w c.f.ok`
abbrev pub returned : (w : Width) (z : ℤ) → mag z < 2 ^ hbits w → Num
returned w z h = param {w = w} {z = z} (record { sfits = h })

-- what a call says of a number of 64 bits as the machine has it, said of the number
pub said : {A : Type 0} (f : ℤ → A) (z : ℤ) {r : A} → r ≡ f (to_z w64 (of_z w64 z)) → mag z < 2 ^ 63 → r ≡ f z
said f z e h = e ∙ ap f (returned w64 z h).same

-- and of two
pub said₂ : {A : Type 0} (f : ℤ → ℤ → A) (y z : ℤ) {r : A} → r ≡ f (to_z w64 (of_z w64 y)) (to_z w64 (of_z w64 z))
    → mag y < 2 ^ 63 → mag z < 2 ^ 63 → r ≡ f y z
said₂ f y z e h k = said (f y) z (said (λ (x : ℤ). f x (to_z w64 (of_z w64 z))) y e h) k

abbrev pub nat : (w : Width) {n : ℕ} (k : ℕ) → n ≤ k → T (ltb k (2 ^ hbits w)) → Num
nat w {n} k h t =
    record {
      has = to_z w n;
      is = pos n;
      most = k;
      same = to_z_pos w (lt_of_le_of_lt h (ltb→lt k (2 ^ hbits w) t));
      small = h;
    }

abbrev pub num≤ : (z : ℤ) {k : ℕ} → nat_abs z ≤ k → Num
num≤ z {k} h = record { has = z; is = z; most = k; same = refl; small = h }

abbrev pub num : ℤ → Num
num z = num≤ z (le_refl (nat_abs z))

-- what a local holds is read back
abbrev pub back< : (w : Width) (n : Num) → n.most < 2 ^ hbits w → Num
back< w n h =
    record {
      has = to_z w (of_z w n.has);
      is = n.is;
      most = n.most;
      same = to_z-of_z (fit< {w = w} n h) ∙ n.same;
      small = n.small;
    }

abbrev pub back : (w : Width) (n : Num) → T (ltb n.most (2 ^ hbits w)) → Num
back w n t = back< w n (ltb→lt n.most (2 ^ hbits w) t)

-- the operations
pub plus-small : (a b : ℤ) {k l : ℕ} → nat_abs a ≤ k → nat_abs b ≤ l → nat_abs (a +ℤ b) ≤ k + l
plus-small a b h g = omega (arith, nat_abs-add a b)

pub minus-small : (a b : ℤ) {k l : ℕ} → nat_abs a ≤ k → nat_abs b ≤ l → nat_abs (a -ℤ b) ≤ k + l
minus-small a b h g = omega (arith, nat_abs-add a (neg_ℤ b), nat_abs-neg b)

pub times-small : (a b : ℤ) {k l : ℕ} → nat_abs a ≤ k → nat_abs b ≤ l → nat_abs (a *ℤ b) ≤ k * l
times-small a b {k} {l} h g = subst (λ (n : ℕ). n ≤ k * l) (sym (nat_abs_mul a b)) (mul-le-mul h g)

pub over-small : (a : ℤ) (d : ℕ) {k : ℕ} → nat_abs a ≤ k → nat_abs (quot_z a (pos d)) ≤ k / d
over-small a d {k} h = subst (λ (n : ℕ). n ≤ k / d) (sym (nat_abs-quot a d)) (div_mono d h)

infixl 6 ◌⊕◌ ◌⊖◌
infixl 7 ◌⊗◌
abbrev pub ◌⊕◌ : Num → Num → Num
m ⊕ n =
    record {
      has = m.has +ℤ n.has;
      is = m.is +ℤ n.is;
      most = m.most + n.most;
      same = ap₂ ◌+ℤ◌ m.same n.same;
      small = plus-small m.is n.is m.small n.small;
    }

abbrev pub ◌⊖◌ : Num → Num → Num
m ⊖ n =
    record {
      has = m.has -ℤ n.has;
      is = m.is -ℤ n.is;
      most = m.most + n.most;
      same = ap₂ ◌-ℤ◌ m.same n.same;
      small = minus-small m.is n.is m.small n.small;
    }

abbrev pub ◌⊗◌ : Num → Num → Num
m ⊗ n =
    record {
      has = m.has *ℤ n.has;
      is = m.is *ℤ n.is;
      most = m.most * n.most;
      same = ap₂ ◌*ℤ◌ m.same n.same;
      small = times-small m.is n.is m.small n.small;
    }

abbrev pub over : Num → ℕ → Num
over n d =
    record {
      has = quot_z n.has (pos d);
      is = quot_z n.is (pos d);
      most = n.most / d;
      same = ap (λ (v : ℤ). quot_z v (pos d)) n.same;
      small = over-small n.is d n.small;
    }

-- what a callee or a test says of what the machine has, said of the number, and the other way
pub bound : (n : Num) → nat_abs n.has ≤ n.most
bound n = subst (λ (v : ℤ). nat_abs v ≤ n.most) (sym n.same) n.small

pub size : (n : Num) → nat_abs n.has ≡ nat_abs n.is
size n = ap nat_abs n.same

-- a signed test leaves an equation of its flag
pub lt_yes : (m n : Num) → lt_z m.has n.has ≡ true → m.is <ℤ n.is
lt_yes m n e = subst₂ (λ (x y : ℤ). x <ℤ y) m.same n.same (lt-true m.has n.has e)

pub lt-flag : (m n : Num) {t : Bool} → lt_z m.has n.has ≡ t → lt_z m.is n.is ≡ t
lt-flag m n e = sym (ap₂ lt_z m.same n.same) ∙ e

pub lt_no : (m n : Num) → lt_z m.has n.has ≡ false → n.is ≤ℤ m.is
lt_no m n e = subst₂ (λ (x y : ℤ). y ≤ℤ x) m.same n.same (lt-false m.has n.has e)

-- a number that is not negative, cast to an unsigned type
pub unsigned : {w : Width} (n : Num) → pos 0 ≤ℤ n.is → T (ltb n.most (2 ^ bits w))
    → T (non_neg n.has) × Fits w (nat_abs n.has)
unsigned {w} n h t = (
  subst (λ (v : ℤ). T (non_neg v)) (sym n.same) (yes_non_neg h),
  record { fits = lt_of_le_of_lt (bound n) (ltb→lt n.most (2 ^ bits w) t) },
)

-- with a bound of its own, where the operations' bounds are too wide
abbrev pub tight : (n : Num) (k : ℕ) → nat_abs n.is ≤ k → Num
tight n k h = record { has = n.has; is = n.is; most = k; same = n.same; small = h }

-- bits, as a loop's invariant has a signed local: what `to_z w` reads from them is a number of size k at most
abbrev pub held : (w : Width) (n k : ℕ) → nat_abs (to_z w n) ≤ k → Num
held w n k h = num≤ (to_z w n) h
