-- A field by its first byte: digits that begin with 0, digits that do not, and either behind a minus sign.
use Prim.Native.Nat.{ℕ, ◌-◌, ◌*◌, ◌+◌, ◌^◌, ◌≤◌, ◌<◌}
use mathlib.Core.Path.{◌≡◌, ap, ◌∙◌, sym}
use mathlib.Core.Bool.{Bool, true, false, true≢false, cond, not, ◌&&◌, and-false}
use mathlib.Core.Bool as bool
use mathlib.Core.List.{List, [], ◌∷◌}
use native.Mathlib.Omega.{arith}
use lib.Dec.{ltb, leb, eqb}
use lib.ListN.{length}
use borrow.Author.Tests.{le-leb, lt-leb, lt-ltb, ne_eqb, leb-true, ltb-true}
use Rattle.whole.proofs.Tests.{by-test, and-true}
use Rattle.whole.specs.Digits.{is_digit, all_digits, leading_zero, value_after, value}
use Rattle.whole.proofs.Digits.{digits-length}
use Rattle.whole.proofs.AreDigits.{digits-back}
use Rattle.field.specs.declared.Field.{Field}
use Rattle.field.specs.declared.Field.TheVariants.{Bad, Plus, Minus}
use Rattle.field.specs.Field.{digits_in_form, unsigned, negative, numeral, field_from, lone_dash, lone_capital}
use Rattle.field.proofs.Fields.{form-parts, form-plain}
use Rattle.lines.proofs.Round.{form-value}
use Rattle.std.specs.Prelude.{Err}
use Rattle.rose.specs.declared.Misread.TheVariants.{OutOfForm}
use Rattle.rose.specs.Observation.{field_says}

-- ---- digits

pub digit-is : (b : ℕ) → is_digit b ≡ true → (48 ≤ b) × (b ≤ 57)
digit-is b t = let e = and-true (leb 48 b) (leb b 57) t in (leb-true 48 b e.0, leb-true b 57 e.1)

pub is_digit_lem : (b : ℕ) → 48 ≤ b → b ≤ 57 → is_digit b ≡ true
is_digit_lem b lo hi = rw (le-leb 48 b lo, le-leb b 57 hi)

pub value-from : (s : List ℕ) (v : ℕ) → v ≤ value_after v s
unfolding value_after
value-from [] v = omega arith
value-from (d ∷ s) v = omega (arith, value-from s (v * 10 + (d - 48)))

other-first : (b : ℕ) (s : List ℕ) → is_digit b ≡ false → digits_in_form (b ∷ s) ≡ false
unfolding digits_in_form all_digits
other-first b s t =
    rw t (and-false (leb 1 (length (b ∷ s)) && leb (length (b ∷ s)) 7 && not (leading_zero (b ∷ s))))

zero-first : (b : ℕ) (s : List ℕ) → digits_in_form (48 ∷ b ∷ s) ≡ false
unfolding digits_in_form
zero-first b s =
    let n = length (48 ∷ b ∷ s) in rw (lt-ltb 1 n (omega arith), and-false (leb 1 n && leb n 7))

-- with a first digit other than 0 they are at most seven where they stand for less than 10,000,000
module _ (d : ℕ) (s : List ℕ) (lo : 49 ≤ d) (hi : d ≤ 57) where
  first-value : value (d ∷ s) ≡ value_after (d - 48) s
  unfolding value value_after
  first-value = let q : 0 * 10 + (d - 48) ≡ d - 48 = omega arith in rw q

  first-all : all_digits (d ∷ s) ≡ all_digits s
  unfolding all_digits
  first-all = rw (is_digit_lem d (omega arith) hi)

  not-zero : leading_zero (d ∷ s) ≡ false
  not-zero = rw (ne_eqb d 48 (λ e. omega arith), and-false (ltb 1 (length (d ∷ s))))

  short-form : all_digits s ≡ true → value_after (d - 48) s < 10000000 → digits_in_form (d ∷ s) ≡ true
  short-form a v =
      let w : value (d ∷ s) < 10 ^ 7 = rw first-value v in
      let b = digits-back (d ∷ s) (omega arith) not-zero (first-all ∙ a) in
      let n : length (d ∷ s) ≤ 7 = rw b at (digits-length 6 (value (d ∷ s)) w) in
      form-plain (d ∷ s) (λ e. omega arith) n (λ e. omega arith) ∙ first-all ∙ a

  abbrev small : Bool
  small = ltb (value_after (d - 48) s) 10000000

  first-form : digits_in_form (d ∷ s) ≡ (all_digits s && small)
  first-form =
      by-test (digits_in_form (d ∷ s))
      (λ t.
      let v : value (d ∷ s) < 10000000 = form-value (d ∷ s) t in
      t ∙ sym (rw (sym first-all ∙ (form-parts (d ∷ s) t).all, lt-ltb _ _ (rw first-value at v))))
      (λ t. by-test (all_digits s && small)
      (λ u.
      let e = and-true (all_digits s) small u in
      absurd (true≢false (sym (short-form e.0 (ltb-true _ _ e.1)) ∙ t)))
      (λ u. t ∙ sym u))

-- ---- fields

unsigned-field : (x : ℕ) (q : List ℕ) → 48 ≤ x → x ≤ 57 → field_from (x ∷ q) ≡ unsigned (x ∷ q)
unfolding field_from numeral
unsigned-field x q lo hi =
    rw (ne_eqb x 45 (λ e. omega arith), lt-leb 65 x (omega arith), and-false (eqb (length (x ∷ q)) 1))

signed-field : (y : ℕ) (q : List ℕ) → field_from (45 ∷ y ∷ q) ≡ negative (y ∷ q)
unfolding field_from numeral
signed-field y q = rw (ne_eqb (length (45 ∷ y ∷ q)) 1 (λ e. omega arith))

-- what digits say whose first stands for v, with a sign or not
abbrev pub digits_field : (ℕ → Field) → ℕ → List ℕ → Field
digits_field signed v s = cond (all_digits s && ltb (value_after v s) 10000000) (signed (value_after v s)) Bad

module _ (x : ℕ) (q : List ℕ) (lo : 49 ≤ x) (hi : x ≤ 57) where
  pub first_field : field_from (x ∷ q) ≡ digits_field Plus (x - 48) q
  unfolding unsigned
  first_field = unsigned-field x q (omega arith) hi ∙ rw (first-form x q lo hi, first-value x q lo hi)

  pub first_signed : field_from (45 ∷ x ∷ q) ≡ digits_field Minus (x - 48) q
  unfolding negative
  first_signed =
      let p : 0 < value_after (x - 48) q = omega (arith, value-from q (x - 48)) in
      signed-field x q ∙ rw (first-form x q lo hi, first-value x q lo hi, lt-ltb 0 _ p, bool.and-true)

pub zero_field : (y : ℕ) (q : List ℕ) → field_from (48 ∷ y ∷ q) ≡ Bad
unfolding unsigned
zero_field y q = unsigned-field 48 (y ∷ q) (omega arith) (omega arith) ∙ rw (zero-first y q)

pub zero-signed : (q : List ℕ) → field_from (45 ∷ 48 ∷ q) ≡ Bad
unfolding negative digits_in_form all_digits value value_after
zero-signed [] = signed-field 48 []
zero-signed (y ∷ q) =
    let v = value (48 ∷ y ∷ q) in
    signed-field 48 (y ∷ q) ∙ ap (λ (t : Bool). cond (t && ltb 0 v) (Minus v) Bad) (zero-first y q)

pub other-signed : (y : ℕ) (q : List ℕ) → is_digit y ≡ false → field_from (45 ∷ y ∷ q) ≡ Bad
unfolding negative
other-signed y q t = signed-field y q ∙ rw (other-first y q t)

pub other-field : (top x : ℕ) (q : List ℕ) → is_digit x ≡ false → eqb x 45 ≡ false
    → field_says top (field_from (x ∷ q)) ≡ Err OutOfForm
unfolding field_from numeral unsigned
other-field top x q t u =
    by-test (lone_dash (x ∷ q)) (λ e. rw e)
    (λ e. by-test (lone_capital (x ∷ q)) (λ f. rw (e, f)) (λ f. rw (e, f, u, other-first x q t)))
