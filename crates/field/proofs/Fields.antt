-- Laws of a field: what each way through the code finds, and that a number of at most 7 digits, written, is read as
-- itself.
use Prim.Native.Nat.{ℕ, zero, suc, ◌+◌, ◌-◌, ◌*◌, ◌^◌, ◌≤◌, ◌<◌}
use mathlib.Core.Path.{◌≡◌, refl, ap, ◌∙◌, sym}
use mathlib.Core.Bool.{true, false, cond, not, ◌&&◌}
use mathlib.Core.List.{List, [], ◌∷◌}
use native.Mathlib.Nat.{pow-suc, pow-le-pow_right}
use native.Mathlib.Numerals.{add-one}
use native.Mathlib.Omega.{arith}
use lib.Dec.{ltb, leb, eqb, lit<}
use lib.IntN.{pos, negsuc}
use lib.ListN.{length, get_or, drop, drop_of_length-le, get_or-eq_default}
use lib.Seq.{drop-cons}
use borrow.Author.Tests.{le-leb, lt-leb, le-ltb, lt-ltb, eq-eqb, ne_eqb, leb-true, eqb-true, eqb-false, not-true}
use Rattle.whole.proofs.Tests.{by-test, and-true}
use Rattle.field.specs.declared.Field.{Field}
use Rattle.field.specs.declared.Field.TheVariants.{Bad, Plus, Minus, Letter, Dash}
use Rattle.whole.specs.Digits.{digits, decimal, is_digit, all_digits, leading_zero, value_after, value}
use Rattle.field.specs.Field.{first_byte, digits_in_form, unsigned, negative, numeral, field_from}
use Rattle.whole.proofs.Digits.{Begins, digits-all, digits-begin, digits-lead, digits-length, digits-read}

-- ---- digit by digit, from a place on

-- digits after those that stood for v, read as a number
abbrev pub read_after : ℕ → List ℕ → Field
read_after v ds = cond (all_digits ds) (Plus (value_after v ds)) Bad

module _ (s : List ℕ) (i v : ℕ) where
  module _ (h : i < length s) where
    read_step : read_after v (drop i s) ≡ cond (is_digit (get_or s i 0) && all_digits (drop (i + 1) s))
        (Plus (value_after (v * 10 + (get_or s i 0 - 48)) (drop (i + 1) s))) Bad
    unfolding all_digits value_after
    read_step = rw (add-one, drop-cons s i 0)

    pub read_low : get_or s i 0 < 48 → read_after v (drop i s) ≡ Bad
    read_low lo = read_step ∙ rw (lt-leb _ _ lo)

    pub read-high : 48 ≤ get_or s i 0 → 57 < get_or s i 0 → read_after v (drop i s) ≡ Bad
    read-high lo hi = read_step ∙ rw (le-leb _ _ lo, lt-leb _ _ hi)

    pub read_next : 48 ≤ get_or s i 0 → get_or s i 0 ≤ 57
        → read_after v (drop i s) ≡ read_after (v * 10 + (get_or s i 0 - 48)) (drop (i + 1) s)
    read_next lo hi = read_step ∙ rw (le-leb _ _ lo, le-leb _ _ hi)

  pub read-end : length s ≤ i → read_after v (drop i s) ≡ Plus v
  unfolding all_digits value_after
  read-end h = rw (drop_of_length-le s h)

-- one digit more stays below the next power of ten, and behind six there is room for another
pub value_grows : (v i d : ℕ) → v < 10 ^ i → d < 10 → v * 10 + d < 10 ^ (i + 1)
value_grows v i d h k = rw (add-one, pow-suc) (omega arith)

pub value_room : (v i : ℕ) → v < 10 ^ i → i < 7 → v < 1000000
value_room v i h k = omega (arith, pow-le-pow_right {n = 10} (lit< tt) {i = i} {j = 6} (omega arith))

-- ---- the digits of a number

-- `digits_in_form`, by its parts
pub record Form (ds : List ℕ) : Type 0 where
  pub some : 1 ≤ length ds
  pub short : length ds ≤ 7
  pub lead : leading_zero ds ≡ false
  pub all : all_digits ds ≡ true

pub form-parts : (ds : List ℕ) → digits_in_form ds ≡ true → Form ds
unfolding digits_in_form
form-parts ds t =
    let a = and-true (leb 1 (length ds) && leb (length ds) 7 && not (leading_zero ds)) (all_digits ds) t in
    let b = and-true (leb 1 (length ds) && leb (length ds) 7) (not (leading_zero ds)) a.0 in
    let c = and-true (leb 1 (length ds)) (leb (length ds) 7) b.0 in
    record {
      some = leb-true 1 (length ds) c.0;
      short = leb-true (length ds) 7 c.1;
      lead = not-true (leading_zero ds) b.1;
      all = a.1;
    }

module _ (ds : List ℕ) where
  pub form-none : length ds ≡ 0 → digits_in_form ds ≡ false
  unfolding digits_in_form
  form-none h = rw (lt-leb 1 (length ds) (omega arith))

  pub form-long : 7 < length ds → digits_in_form ds ≡ false
  unfolding digits_in_form
  form-long h = rw (le-leb 1 (length ds) (omega arith), lt-leb (length ds) 7 h)

  module _ (some : length ds ≡ 0 → ⊥) (short : length ds ≤ 7) where
    form-is : digits_in_form ds ≡ (not (leading_zero ds) && all_digits ds)
    unfolding digits_in_form
    form-is = rw (le-leb 1 (length ds) (omega arith), le-leb (length ds) 7 short)

    pub form-led : 1 < length ds → first_byte ds ≡ 48 → digits_in_form ds ≡ false
    form-led h z = form-is ∙ rw (lt-ltb 1 (length ds) h, eq-eqb (first_byte ds) 48 z)

    pub form-plain : (first_byte ds ≡ 48 → ⊥) → digits_in_form ds ≡ all_digits ds
    form-plain z = form-is ∙ by-test (ltb 1 (length ds)) (λ t. rw (t, ne_eqb (first_byte ds) 48 z)) (λ t. rw t)

-- ---- a number, and a field, as the code tells them apart

pub unsigned-zero : (s : List ℕ) → (length s ≡ 0 → ⊥) → length s ≤ 1 → first_byte s ≡ 48 → Plus 0 ≡ unsigned s
unfolding unsigned digits_in_form all_digits value value_after
unsigned-zero [] some short z = absurd (some refl)
unsigned-zero (d ∷ []) some short z = rw z
unsigned-zero (d ∷ x ∷ s) some short z = absurd (omega arith)

module _ (s : List ℕ) where
  pub unsigned-yes : digits_in_form s ≡ true → Plus (value s) ≡ unsigned s
  unfolding unsigned
  unsigned-yes t = rw t

  pub unsigned-no : digits_in_form s ≡ false → Bad ≡ unsigned s
  unfolding unsigned
  unsigned-no t = rw t

  -- what is read as a number is in form
  pub unsigned-form : (v : ℕ) → unsigned s ≡ Plus v → (digits_in_form s ≡ true) × (value s ≡ v)
  unsigned-form v e =
      by-test (digits_in_form s)
      (λ t. (t, cc (unsigned-yes t)))
      (λ t. let z : ◌≡◌ {A = ℕ} 0 1 = cc (unsigned-no t) in absurd (omega arith))

  pub unsigned-plain : (length s ≡ 0 → ⊥) → length s ≤ 7 → (first_byte s ≡ 48 → ⊥)
      → cond (all_digits s) (Plus (value s)) Bad ≡ unsigned s
  unfolding unsigned
  unsigned-plain some short z = rw (form-plain s some short z)

  pub negative-yes : digits_in_form s ≡ true → (value s ≡ 0 → ⊥) → Minus (value s) ≡ negative s
  unfolding negative
  negative-yes t h = rw (t, lt-ltb 0 (value s) (omega arith))

  pub negative-zero : digits_in_form s ≡ true → value s ≡ 0 → Bad ≡ negative s
  unfolding negative
  negative-zero t h = rw (t, le-ltb 0 (value s) (omega arith))

  pub negative-no : digits_in_form s ≡ false → Bad ≡ negative s
  unfolding negative
  negative-no t = rw t

  pub number-minus : first_byte s ≡ 45 → negative (drop 1 s) ≡ numeral s
  unfolding numeral
  number-minus h = rw (eq-eqb (first_byte s) 45 h)

  pub number-plus : (first_byte s ≡ 45 → ⊥) → unsigned s ≡ numeral s
  unfolding numeral
  number-plus h = rw (ne_eqb (first_byte s) 45 h)

  pub number-none : length s ≡ 0 → Bad ≡ numeral s
  number-none h =
      let z : length s ≤ 0 = omega arith in
      unsigned-no (form-none s h) ∙ number-plus (λ e. omega (arith, get_or-eq_default s 0 z))

  pub field-many : (length s ≡ 1 → ⊥) → numeral s ≡ field_from s
  unfolding field_from
  field-many h = rw (ne_eqb (length s) 1 h)

  module _ (h : length s ≡ 1) where
    pub field-dash : first_byte s ≡ 45 → Dash ≡ field_from s
    unfolding field_from
    field-dash d = rw (eq-eqb (length s) 1 h, eq-eqb (first_byte s) 45 d)

    pub field-low : (first_byte s ≡ 45 → ⊥) → first_byte s < 65 → numeral s ≡ field_from s
    unfolding field_from
    field-low d k = rw (eq-eqb (length s) 1 h, ne_eqb (first_byte s) 45 d, lt-leb 65 (first_byte s) k)

    pub field-high : (first_byte s ≡ 45 → ⊥) → 65 ≤ first_byte s → 90 < first_byte s → numeral s ≡ field_from s
    unfolding field_from
    field-high d k m =
        rw (eq-eqb (length s) 1 h, ne_eqb (first_byte s) 45 d, le-leb 65 (first_byte s) k, lt-leb (first_byte s) 90 m)

    pub field-letter : (first_byte s ≡ 45 → ⊥) → 65 ≤ first_byte s → first_byte s ≤ 90
        → Letter (first_byte s) ≡ field_from s
    unfolding field_from
    field-letter d k m =
        rw (eq-eqb (length s) 1 h, ne_eqb (first_byte s) 45 d, le-leb 65 (first_byte s) k, le-leb (first_byte s) 90 m)

-- ---- written, then read

begins-some : (l : List ℕ) (low : ℕ) → Begins l low → 1 ≤ length l
begins-some l low b = omega (arith, ap length b.is)

begins-first : (l : List ℕ) (low : ℕ) → Begins l low → (low ≤ first_byte l) × (first_byte l ≤ 57)
begins-first l low b = rw b.is (b.least, b.most)

digits-form : (n : ℕ) → n < 10 ^ 7 → digits_in_form (digits n) ≡ true
unfolding digits_in_form all_digits digits
digits-form zero h = refl
digits-form (suc k) h =
    let b = digits-lead (suc k) (omega arith) in
    let some = begins-some (digits (suc k)) 49 b in
    form-plain (digits (suc k)) (λ e. omega arith) (digits-length 6 (suc k) h)
    (λ e. omega (arith, (begins-first (digits (suc k)) 49 b).0))
    ∙ digits-all (suc k)

pub field-digits : (n : ℕ) → n < 10 ^ 7 → field_from (digits n) ≡ Plus n
field-digits n h =
    let b = begins-first (digits n) 48 (digits-begin n) in
    sym (as_number b.0 b.1)
    ∙ sym (number-plus (digits n) (λ e. omega (arith, b.0)))
    ∙ sym (unsigned-yes (digits n) (digits-form n h))
    ∙ ap Plus (digits-read n)
  where
    as_number : 48 ≤ first_byte (digits n) → first_byte (digits n) ≤ 57 → numeral (digits n) ≡ field_from (digits n)
    as_number lo hi =
        by-test (eqb (length (digits n)) 1)
        (λ e. field-low (digits n) (eqb-true _ _ e) (λ q. omega arith) (omega arith))
        (λ e. field-many (digits n) (eqb-false _ _ e))

pub field-minus : (n : ℕ) → 0 < n → n < 10 ^ 7 → field_from (45 ∷ digits n) ≡ Minus n
field-minus n p h =
    let some = begins-some (digits n) 48 (digits-begin n) in
    let v = digits-read n in
    sym (field-many (45 ∷ digits n) (λ e. omega arith)) ∙ sym (number-minus (45 ∷ digits n) refl)
    ∙ sym (negative-yes (digits n) (digits-form n h) (λ e. omega arith)) ∙ ap Minus v

-- a signed number of at most 7 digits, written, is read as itself
pub field-decimal-plus : (n : ℕ) → n < 10 ^ 7 → field_from (decimal (pos n)) ≡ Plus n
unfolding decimal
field-decimal-plus n h = field-digits n h

pub field-decimal-minus : (n : ℕ) → suc n < 10 ^ 7 → field_from (decimal (negsuc n)) ≡ Minus (suc n)
unfolding decimal
field-decimal-minus n h = field-minus (suc n) (omega arith) h
