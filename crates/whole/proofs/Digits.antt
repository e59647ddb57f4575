-- Laws of digits: they are those of a tenth and one more, they are read back as the number, and how many there are.
use mathlib.Core.Path.{◌≡◌, refl, sym, ap, ◌∙◌}
use mathlib.Core.Bool.{true, false, true≢false}
use mathlib.Core.List.{List, [], ◌∷◌, ◌++◌}
use Prim.Native.Nat.{ℕ, zero, suc, ◌+◌, ◌*◌, ◌-◌, ◌/◌, ◌%◌, ◌≤◌, ◌<◌, ◌^◌}
use native.Mathlib.Nat.{le_refl, pow-suc}
use native.Mathlib.Omega.{arith}
use lib.Dec.{ltb}
use lib.IntN.{ℤ, pos, negsuc, neg_ℤ, nat_abs}
use lib.ListN.{length, length-append}
use lib.Signed.{mag, lt_z}
use borrow.Author.Tests.{le-leb, ltb-true, ltb-false, ne_eqb}
use Rattle.whole.proofs.Tests.{by-test, and-true}
use Rattle.whole.specs.Digits.{digits_within, digits, decimal, is_digit, all_digits, value_after, value}
use Rattle.whole.specs.Digits.{signed_value}

-- ---- what they are

within_none : (k d : ℕ) → digits_within k 0 d ≡ (48 + d) ∷ []
unfolding digits_within
within_none zero d = refl
within_none (suc k) d = refl

within-some : (k t d : ℕ) → 0 < t → digits_within (suc k) t d ≡ digits_within k (t / 10) (t % 10) ++ ((48 + d) ∷ [])
unfolding digits_within
within-some k zero d h = absurd (omega arith)
within-some k (suc t) d h = refl

-- how many places there are does not matter, where they are t or more
within-agree : (j k t d : ℕ) → t ≤ j → t ≤ k → digits_within j t d ≡ digits_within k t d
unfolding digits_within
within-agree zero k zero d hj hk = sym (within_none k d)
within-agree zero k (suc t) d hj hk = absurd (omega arith)
within-agree (suc j) k zero d hj hk = sym (within_none k d)
within-agree (suc j) zero (suc t) d hj hk = absurd (omega arith)
within-agree (suc j) (suc k) (suc t) d hj hk =
    within-some j (suc t) d (omega arith)
    ∙ ap (λ (l : List ℕ). l ++ ((48 + d) ∷ []))
    (within-agree j k (suc t / 10) (suc t % 10) (omega arith) (omega arith))
    ∙ sym (within-some k (suc t) d (omega arith))

pub digits-small : (n : ℕ) → n < 10 → digits n ≡ (48 + n) ∷ []
unfolding digits
digits-small n h =
    let t : n / 10 ≡ 0 = omega arith in
    let d : n % 10 ≡ n = omega arith in
    rw (t, d) (within_none n n)

pub digits_more : (n : ℕ) → 10 ≤ n → digits n ≡ digits (n / 10) ++ ((48 + n % 10) ∷ [])
unfolding digits
digits_more zero h = absurd (omega arith)
digits_more (suc k) h =
    within-some k (suc k / 10) (suc k % 10) (omega arith)
    ∙ ap (λ (l : List ℕ). l ++ ((48 + suc k % 10) ∷ []))
    (within-agree k (suc k / 10) (suc k / 10 / 10) (suc k / 10 % 10) (omega arith) (omega arith))

-- what holds of each number below ten, and of each other if of its tenth, holds of every number
pub by-tens : (P : ℕ → Type 0) → ((n : ℕ) → n < 10 → P n) → ((n : ℕ) → 10 ≤ n → P (n / 10) → P n) → (n : ℕ) → P n
by-tens P small more n = go n n (le_refl n)
  where
    go : (f m : ℕ) → m ≤ f → P m
    go zero m l = small m (omega arith)
    go (suc f) m l =
        by-test (ltb m 10) (λ e. small m (ltb-true m 10 e))
        (λ e. more m (ltb-false m 10 e) (go f (m / 10) (omega (arith, ltb-false m 10 e))))

-- ---- how many there are

pub length-small : (n : ℕ) → n < 10 → length (digits n) ≡ 1
length-small n h = ap length (digits-small n h)

pub length_more : (n : ℕ) → 10 ≤ n → length (digits n) ≡ length (digits (n / 10)) + 1
length_more n h = ap length (digits_more n h) ∙ length-append (digits (n / 10)) ((48 + n % 10) ∷ [])

pub digits-length : (k n : ℕ) → n < 10 ^ suc k → length (digits n) ≤ suc k
digits-length zero n h = omega (arith, length-small n h)
digits-length (suc k) n h =
    let g : n < 10 ^ suc k * 10 = rw pow-suc at h in
    by-test (ltb n 10) (λ e. omega (arith, length-small n (ltb-true n 10 e)))
    (λ e. omega (arith, length_more n (ltb-false n 10 e), digits-length k (n / 10) (omega arith)))

pub decimal-length : (z : ℤ) → mag z < 2 ^ 63 → length (decimal z) ≤ 20
unfolding decimal
decimal-length (pos n) h = omega (arith, digits-length 18 n (omega arith))
decimal-length (negsuc k) h = omega (arith, digits-length 18 (suc k) (omega arith))

-- ---- each is a digit, and none is a leading zero

pub all_append : (s t : List ℕ) → all_digits s ≡ true → all_digits t ≡ true → all_digits (s ++ t) ≡ true
unfolding all_digits
all_append [] t a b = b
all_append (d ∷ s) t a b = let e = and-true (is_digit d) (all_digits s) a in rw e.0 (all_append s t e.1 b)

all_one : (n : ℕ) → n < 10 → all_digits ((48 + n) ∷ []) ≡ true
unfolding all_digits
all_one n h = rw (le-leb 48 (48 + n) (omega arith), le-leb (48 + n) 57 (omega arith))

pub digits-all : (n : ℕ) → all_digits (digits n) ≡ true
digits-all = by-tens (λ n. all_digits (digits n) ≡ true)
    (λ n h. rw (digits-small n h) (all_one n h))
    (λ n h ih.
    rw (digits_more n h) (all_append (digits (n / 10)) ((48 + n % 10) ∷ []) ih (all_one (n % 10) (omega arith))))

-- a list that begins with the byte b
pub record Begins (l : List ℕ) (low : ℕ) : Type 0 where
  pub head : ℕ
  pub rest : List ℕ
  pub is : l ≡ head ∷ rest
  pub least : low ≤ head
  pub most : head ≤ 57

begins-append : (l t : List ℕ) (low : ℕ) → Begins l low → Begins (l ++ t) low
begins-append l t low b =
    record {
      head = b.head;
      rest = b.rest ++ t;
      is = ap (λ (x : List ℕ). x ++ t) b.is;
      least = b.least;
      most = b.most;
    }

pub digits-begin : (n : ℕ) → Begins (digits n) 48
digits-begin = by-tens (λ n. Begins (digits n) 48)
    (λ n h. record { head = 48 + n; rest = []; is = digits-small n h; least = omega arith; most = omega arith })
    (λ n h ih. rw (digits_more n h) (begins-append (digits (n / 10)) ((48 + n % 10) ∷ []) 48 ih))

-- the first digit of a number that is not 0 is not 0
pub digits-lead : (n : ℕ) → 0 < n → Begins (digits n) 49
digits-lead = by-tens (λ n. 0 < n → Begins (digits n) 49)
    (λ n h p. record { head = 48 + n; rest = []; is = digits-small n h; least = omega arith; most = omega arith })
    (λ n h ih p. rw (digits_more n h) (begins-append (digits (n / 10)) ((48 + n % 10) ∷ []) 49 (ih (omega arith))))

-- ---- read back

value-append : (v : ℕ) (s t : List ℕ) → value_after v (s ++ t) ≡ value_after (value_after v s) t
unfolding value_after
value-append v [] t = refl
value-append v (d ∷ s) t = value-append (v * 10 + (d - 48)) s t

pub digits-read : (n : ℕ) → value (digits n) ≡ n
unfolding value value_after
digits-read = by-tens (λ n. value_after 0 (digits n) ≡ n)
    (λ n h. rw (digits-small n h) (omega arith))
    (λ n h ih.
    ap (value_after 0) (digits_more n h)
    ∙ value-append 0 (digits (n / 10)) ((48 + n % 10) ∷ [])
    ∙ (rw ih (omega arith)))

signed-plain : (l : List ℕ) → Begins l 48 → signed_value l ≡ pos (value l)
unfolding signed_value
signed-plain l b = rw b.is (rw (ne_eqb b.head 45 (λ q. omega arith)) refl)

pub decimal-read : (z : ℤ) → signed_value (decimal z) ≡ z
unfolding signed_value decimal
decimal-read (pos n) = signed-plain (digits n) (digits-begin n) ∙ ap pos (digits-read n)
decimal-read (negsuc k) = ap (λ (m : ℕ). neg_ℤ (pos m)) (digits-read (suc k))

pub decimal_injective : (y z : ℤ) → decimal y ≡ decimal z → y ≡ z
decimal_injective y z e = sym (decimal-read y) ∙ ap signed_value e ∙ decimal-read z

-- ---- the two ways of the code

pub decimal-below : (z : ℤ) (m : ℕ) → lt_z z (pos 0) ≡ true → m ≡ nat_abs z → decimal z ≡ 45 ∷ digits m
unfolding decimal
decimal-below (pos n) m t e = absurd (omega (arith, ltb-true n 0 t))
decimal-below (negsuc k) m t e = ap (λ (j : ℕ). 45 ∷ digits j) (sym e)

pub decimal-above : (z : ℤ) (m : ℕ) → lt_z z (pos 0) ≡ false → m ≡ nat_abs z → decimal z ≡ digits m
unfolding decimal
decimal-above (pos n) m t e = ap digits (sym e)
decimal-above (negsuc k) m t e = absurd (true≢false t)
