-- A number taken byte by byte says what the field says that its bytes are.
use Prim.Native.Nat.{ℕ, ◌+◌, ◌-◌, ◌*◌, ◌≤◌, ◌<◌}
use mathlib.Core.Path.{◌≡◌, refl, ap, ◌∙◌, sym}
use mathlib.Core.Bool.{true, false, and-false}
use mathlib.Core.List.{List, [], ◌∷◌}
use native.Mathlib.Omega.{arith}
use lib.Dec.{ltb, eqb}
use borrow.Author.Tests.{le-leb, lt-ltb, le-ltb, ne_eqb, ltb-true, ltb-false, eqb-true, eqb-false}
use Rattle.whole.proofs.Tests.{by-test}
use Rattle.whole.specs.Digits.{is_digit, all_digits, value_after, value}
use Rattle.field.specs.declared.Field.{Field}
use Rattle.field.specs.declared.Field.TheVariants.{Plus, Minus}
use Rattle.field.specs.Field.{digits_in_form, unsigned, negative, numeral, field_from}
use Rattle.std.specs.Prelude.{Err}
use Rattle.rose.specs.declared.Misread.TheVariants.{OutOfForm}
use Rattle.rose.specs.declared.Started.{Started}
use Rattle.rose.specs.Observation.{field_says}
use Rattle.rose.specs.Pending.{started, number_more, number_says}
use Rattle.rose.proofs.Fields.{digit-is, is_digit_lem, value-from, digits_field, first_field, first_signed}
use Rattle.rose.proofs.Fields.{zero_field, zero-signed, other-field, other-signed}

-- the number behind more bytes
unfoldable pub number_after : Started → List ℕ → Started
number_after n [] = n
number_after n (b ∷ s) = number_after (number_more n b) s

-- ---- what is no number stays none

none_more : (b : ℕ) → number_more (started 4 0) b ≡ started 4 0
none_more b = by-test (is_digit b) (λ t. rw t) (λ t. by-test (eqb b 45) (λ u. rw (t, u)) (λ u. rw (t, u)))

none_after : (s : List ℕ) → number_after (started 4 0) s ≡ started 4 0
unfolding number_after
none_after [] = refl
none_after (b ∷ s) = ap (λ (n : Started). number_after n s) (none_more b) ∙ none_after s

none-says : (top : ℕ) (n : Started) (b : ℕ) (s : List ℕ) → number_more n b ≡ started 4 0
    → number_says top (number_after n (b ∷ s)) ≡ Err OutOfForm
unfolding number_after
none-says top n b s e = ap (λ (m : Started). number_says top (number_after m s)) e ∙ ap (number_says top) (none_after s)

-- no other byte goes on with a number that has begun
other-more : (k v b : ℕ) → eqb k 0 ≡ false → is_digit b ≡ false → number_more (started k v) b ≡ started 4 0
other-more k v b some t = by-test (eqb b 45) (λ u. rw (t, u, some)) (λ u. rw (t, u))

-- ---- digits go on

-- of kind k, which says what the field says that `signed` makes
module _ (top k : ℕ) (signed : ℕ → Field) (some : eqb k 0 ≡ false)
    (is : (v : ℕ) → number_says top (started k v) ≡ field_says top (signed v)) where
  digit-more : (v d : ℕ) → 1 ≤ v → v < 1000000 → is_digit d ≡ true
      → number_more (started k v) d ≡ started k (v * 10 + (d - 48))
  digit-more v d lo hi t = rw (t, le-leb 1 v lo, lt-ltb v 1000000 hi)

  eighth-more : (v d : ℕ) → 1000000 ≤ v → is_digit d ≡ true → number_more (started k v) d ≡ started 4 0
  eighth-more v d h t = rw (t, le-leb 1 v (omega arith), le-ltb v 1000000 h)

  digits-say : (s : List ℕ) (v : ℕ) → 1 ≤ v → v < 10000000
      → number_says top (number_after (started k v) s) ≡ field_says top (digits_field signed v s)
  unfolding number_after all_digits value_after
  digits-say [] v lo hi = rw (lt-ltb v 10000000 hi) (is v)
  digits-say (d ∷ s) v lo hi =
      let w = v * 10 + (d - 48) in
      by-test (is_digit d)
      (λ t.
      let b = digit-is d t in
      by-test (ltb v 1000000)
      (λ u.
      let h : v < 1000000 = ltb-true _ _ u in
      ap (λ (n : Started). number_says top (number_after n s)) (digit-more v d lo h t)
      ∙ digits-say s w (omega arith) (omega arith)
      ∙ rw t)
      (λ u.
      let h : 1000000 ≤ v = ltb-false _ _ u in
      let g : 10000000 ≤ value_after w s = omega (arith, value-from s w) in
      none-says top (started k v) d s (eighth-more v d h t) ∙ rw (t, le-ltb _ _ g, and-false (all_digits s))))
      (λ t. none-says top (started k v) d s (other-more k v d some t) ∙ rw t)

-- ---- from the first byte on

module _ (top : ℕ) where
  -- a digit other than 0, and one behind a minus sign
  first_says : (x : ℕ) (q : List ℕ) → 49 ≤ x → x ≤ 57
      → number_says top (number_after (started 0 0) (x ∷ q)) ≡ field_says top (field_from (x ∷ q))
  unfolding number_after
  first_says x q lo hi =
      let b : number_more (started 0 0) x ≡ started 2 (x - 48) = rw (is_digit_lem x (omega arith) hi) in
      ap (λ (n : Started). number_says top (number_after n q)) b
      ∙ digits-say top 2 Plus refl (λ v. refl) q (x - 48) (omega arith) (omega arith)
      ∙ sym (ap (field_says top) (first_field x q lo hi))

  first-behind : (x : ℕ) (q : List ℕ) → 49 ≤ x → x ≤ 57
      → number_says top (number_after (started 1 0) (x ∷ q)) ≡ field_says top (field_from (45 ∷ x ∷ q))
  unfolding number_after
  first-behind x q lo hi =
      let b : number_more (started 1 0) x ≡ started 3 (x - 48) =
      rw (is_digit_lem x (omega arith) hi, ne_eqb (x - 48) 0 (λ e. omega arith)) in
      ap (λ (n : Started). number_says top (number_after n q)) b
      ∙ digits-say top 3 Minus refl (λ v. refl) q (x - 48) (omega arith) (omega arith)
      ∙ sym (ap (field_says top) (first_signed x q lo hi))

  zero-says : (q : List ℕ) → number_says top (number_after (started 0 0) (48 ∷ q)) ≡ field_says top (field_from
      (48 ∷ q))
  unfolding number_after field_from numeral unsigned digits_in_form all_digits value value_after
  zero-says [] = refl
  zero-says (y ∷ q) =
      none-says top (started 2 0) y q (by-test (is_digit y) (λ t. rw t) (other-more 2 0 y refl))
      ∙ sym (ap (field_says top) (zero_field y q))

  zero-behind : (q : List ℕ)
      → number_says top (number_after (started 1 0) (48 ∷ q)) ≡ field_says top (field_from (45 ∷ 48 ∷ q))
  unfolding number_after
  zero-behind q = ap (number_says top) (none_after q) ∙ sym (ap (field_says top) (zero-signed q))

  sign-says : (q : List ℕ) → number_says top (number_after (started 1 0) q) ≡ field_says top (field_from (45 ∷ q))
  unfolding number_after field_from negative
  sign-says [] = refl
  sign-says (y ∷ q) =
      by-test (is_digit y)
      (λ t. by-test (eqb y 48) (λ z. rw (eqb-true y 48 z) (zero-behind q))
      (λ z. first-behind y q (omega (arith, eqb-false y 48 z, (digit-is y t).0)) (digit-is y t).1))
      (λ t.
      none-says top (started 1 0) y q (other-more 1 0 y refl t) ∙ sym (ap (field_says top) (other-signed y q t)))

  -- BYTE BY BYTE IT IS THE FIELD
  pub number-says : (p : List ℕ) → number_says top (number_after (started 0 0) p) ≡ field_says top (field_from p)
  unfolding number_after field_from numeral unsigned digits_in_form
  number-says [] = refl
  number-says (x ∷ q) =
      by-test (is_digit x)
      (λ t. by-test (eqb x 48) (λ z. rw (eqb-true x 48 z) (zero-says q))
      (λ z. first_says x q (omega (arith, eqb-false x 48 z, (digit-is x t).0)) (digit-is x t).1))
      (λ t. by-test (eqb x 45) (λ u. rw (eqb-true x 45 u) (sign-says q))
      (λ u. none-says top (started 0 0) x q (rw (t, u)) ∙ sym (other-field top x q t u)))
