-- Numbers in decimal, as bytes: the number that digits stand for, and the digits of a number, most significant first.
use Rattle.std.specs.Prelude.{◌≡◌, ℕ, zero, suc, ◌+◌, ◌-◌, ◌*◌, ◌/◌, ◌%◌, ◌≤◌, Bool, true, false, cond, ◌&&◌, List, []}
use Rattle.std.specs.Prelude.{◌∷◌, ◌++◌, ltb, leb, eqb, ℤ, pos, negsuc, neg_ℤ, length, get_or}

abbrev pub is_digit : ℕ → Bool
is_digit b = leb 48 b && leb b 57

unfoldable pub all_digits : List ℕ → Bool
all_digits [] = true
all_digits (d ∷ ds) = is_digit d && all_digits ds

-- the number that digits stand for, after those that stood for v
unfoldable pub value_after : ℕ → List ℕ → ℕ
value_after v [] = v
value_after v (d ∷ ds) = value_after (v * 10 + (d - 48)) ds

unfoldable pub value : List ℕ → ℕ
unfolding value_after
value ds = value_after 0 ds

-- the same with a sign
unfoldable pub signed_value : List ℕ → ℤ
signed_value [] = pos 0
signed_value (b ∷ s) = cond (eqb b 45) (neg_ℤ (pos (value s))) (pos (value (b ∷ s)))

-- ---- the digits of a number

abbrev pub leading_zero : List ℕ → Bool
leading_zero ds = ltb 1 (length ds) && eqb (get_or ds 0 0) 48

-- what they are: some, each a digit, with no leading zero, and they stand for it
pub record AreDigits (n : ℕ) (ds : List ℕ) : Type 0 where
  pub some : 1 ≤ length ds
  pub each : all_digits ds ≡ true
  pub plain : leading_zero ds ≡ false
  pub stand : value ds ≡ n

-- the last k + 1 digits of a number of t tens and d, or all where it has no more: those of t, where it is not 0, and
-- then d
unfoldable pub digits_within : (k t d : ℕ) → List ℕ
digits_within zero t d = (48 + d) ∷ []
digits_within (suc k) zero d = (48 + d) ∷ []
digits_within (suc k) (suc t) d = digits_within k (suc t / 10) (suc t % 10) ++ ((48 + d) ∷ [])

-- all of them: `digits_are` proves that these are n's digits, and `digits-only` that no others are
unfoldable pub digits : ℕ → List ℕ
unfolding digits_within
digits n = digits_within n (n / 10) (n % 10)

-- a minus sign before the digits of a negative number
unfoldable pub decimal : ℤ → List ℕ
unfolding digits
decimal (pos n) = digits n
decimal (negsuc n) = 45 ∷ digits (suc n)
