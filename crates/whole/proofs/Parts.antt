-- A whole number as two naturals: z is `up z` minus `down z`, and one of the two is 0.
-- `omega` does not read ℤ: each law here says what an operation does to the two naturals, so that a fact of ℤ becomes
-- one fact of ℕ for each operation in it.
use mathlib.Core.Path.{◌≡◌, refl, ◌∙◌, ap, subst}
use mathlib.Core.Logic.{◌⊎◌, inl, inr}
use mathlib.Core.Bool.{Bool, true, false, not, cond}
use Prim.Native.Nat.{ℕ, zero, suc, ◌+◌, ◌-◌, ◌*◌, ◌≤◌, ◌<◌}
use native.Mathlib.Omega.{arith}
use lib.Dec.{T, ltb, ltb→lt, nltb→le, leb→le, le→leb, lt→ltb}
use lib.IntN.{ℤ, pos, negsuc, neg_ℤ, nat_abs, sub_ℕ, ◌+ℤ◌, ◌-ℤ◌, ◌*ℤ◌}
use lib.Signed.{lt_z, le_z, ◌≤ℤ◌, ◌<ℤ◌}

abbrev pub up : ℤ → ℕ
up (pos n) = n
up (negsuc n) = 0

abbrev pub down : ℤ → ℕ
down (pos n) = 0
down (negsuc n) = suc n

-- ---- the operations

cond_ind : (c : Bool) (x y : ℤ) (P : ℤ → Type 0) → (T c → P x) → (T (not c) → P y) → P (cond c x y)
cond_ind true x y P f g = f tt
cond_ind false x y P f g = g tt

pub sub-law : (a b : ℕ) → up (sub_ℕ a b) + b ≡ down (sub_ℕ a b) + a
sub-law a b =
    cond_ind (ltb a b) (negsuc (b - suc a)) (pos (a - b)) (λ z. up z + b ≡ down z + a)
    (λ t. below (ltb→lt a b t)) (λ t. above (nltb→le a b t))
  where
    below : a < b → 0 + b ≡ suc (b - suc a) + a
    below h = omega arith

    above : b ≤ a → (a - b) + b ≡ 0 + a
    above h = omega arith

pub add-law : (x y : ℤ) → up (x +ℤ y) + (down x + down y) ≡ down (x +ℤ y) + (up x + up y)
add-law (pos a) (pos b) = omega arith
add-law (pos a) (negsuc b) = omega (arith, sub-law a (suc b))
add-law (negsuc a) (pos b) = omega (arith, sub-law b (suc a))
add-law (negsuc a) (negsuc b) = omega arith

pub up_neg : (z : ℤ) → up (neg_ℤ z) ≡ down z
up_neg (pos zero) = refl
up_neg (pos (suc n)) = refl
up_neg (negsuc n) = refl

pub down-neg : (z : ℤ) → down (neg_ℤ z) ≡ up z
down-neg (pos zero) = refl
down-neg (pos (suc n)) = refl
down-neg (negsuc n) = refl

pub sub-lawℤ : (x y : ℤ) → up (x -ℤ y) + (down x + up y) ≡ down (x -ℤ y) + (up x + down y)
sub-lawℤ x y = omega (arith, add-law x (neg_ℤ y), up_neg y, down-neg y)

pub up-mul : (x y : ℤ) → up (x *ℤ y) ≡ up x * up y + down x * down y
up-mul (pos a) (pos b) = omega arith
up-mul (pos a) (negsuc b) = up_neg (pos (a * suc b)) ∙ omega arith
up-mul (negsuc a) (pos b) = up_neg (pos (suc a * b)) ∙ omega arith
up-mul (negsuc a) (negsuc b) = omega arith

pub down-mul : (x y : ℤ) → down (x *ℤ y) ≡ up x * down y + down x * up y
down-mul (pos a) (pos b) = omega arith
down-mul (pos a) (negsuc b) = down-neg (pos (a * suc b)) ∙ omega arith
down-mul (negsuc a) (pos b) = down-neg (pos (suc a * b)) ∙ omega arith
down-mul (negsuc a) (negsuc b) = omega arith

-- a product by a natural; `simp (up-scale, down-scale)` brings a goal to products of ℕ
pub up-scale : (x : ℤ) (n : ℕ) → up (x *ℤ pos n) ≡ up x * n
up-scale x n = omega (arith, up-mul x (pos n))

pub down-scale : (x : ℤ) (n : ℕ) → down (x *ℤ pos n) ≡ down x * n
down-scale x n = omega (arith, down-mul x (pos n))

-- ---- equality and order, from the two naturals and back

pub one-is-zero : (z : ℤ) → (up z ≡ 0) ⊎ (down z ≡ 0)
one-is-zero (pos n) = inr refl
one-is-zero (negsuc n) = inl refl

pub eq-by : (x y : ℤ) → up x + down y ≡ up y + down x → x ≡ y
eq-by (pos a) (pos b) h = ap pos (omega arith)
eq-by (pos a) (negsuc b) h = absurd (omega arith)
eq-by (negsuc a) (pos b) h = absurd (omega arith)
eq-by (negsuc a) (negsuc b) h = ap negsuc (omega arith)

pub eq-at : {x y : ℤ} → x ≡ y → up x + down y ≡ up y + down x
eq-at {x} {y} e = subst (λ (z : ℤ). up x + down z ≡ up z + down x) e refl

le-by' : (x y : ℤ) → up x + down y ≤ up y + down x → T (le_z x y)
le-by' (pos a) (pos b) h = le→leb a b (omega arith)
le-by' (pos a) (negsuc b) h = absurd (omega arith)
le-by' (negsuc a) (pos b) h = tt
le-by' (negsuc a) (negsuc b) h = le→leb b a (omega arith)

pub le-by : (x y : ℤ) → up x + down y ≤ up y + down x → x ≤ℤ y
le-by x y h = record { le = le-by' x y h }

le-at' : (x y : ℤ) → T (le_z x y) → up x + down y ≤ up y + down x
le-at' (pos a) (pos b) t = omega (arith, leb→le a b t)
le-at' (pos a) (negsuc b) t = absurd t
le-at' (negsuc a) (pos b) t = omega arith
le-at' (negsuc a) (negsuc b) t = omega (arith, leb→le b a t)

pub le-at : (x y : ℤ) → x ≤ℤ y → up x + down y ≤ up y + down x
le-at x y h = le-at' x y h.le

lt-at' : (x y : ℤ) → T (lt_z x y) → up x + down y < up y + down x
lt-at' (pos a) (pos b) t = omega (arith, ltb→lt a b t)
lt-at' (pos a) (negsuc b) t = absurd t
lt-at' (negsuc a) (pos b) t = omega arith
lt-at' (negsuc a) (negsuc b) t = omega (arith, ltb→lt b a t)

pub lt_at : (x y : ℤ) → x <ℤ y → up x + down y < up y + down x
lt_at x y h = lt-at' x y h.lt

lt-by' : (x y : ℤ) → up x + down y < up y + down x → T (lt_z x y)
lt-by' (pos a) (pos b) h = lt→ltb a b (omega arith)
lt-by' (pos a) (negsuc b) h = absurd (omega arith)
lt-by' (negsuc a) (pos b) h = tt
lt-by' (negsuc a) (negsuc b) h = lt→ltb b a (omega arith)

pub lt_by : (x y : ℤ) → up x + down y < up y + down x → x <ℤ y
lt_by x y h = record { lt = lt-by' x y h }

-- what a call of `omega` lists to read and to prove the orders and the equality of ℤ: `omega (arith, order, add-law x
-- y, ..)`
pub ruleset order = (le-at, lt_at, le-by, lt_by, eq-by)

pub nat_abs-is : (z : ℤ) → nat_abs z ≡ up z + down z
nat_abs-is (pos n) = omega arith
nat_abs-is (negsuc n) = omega arith
