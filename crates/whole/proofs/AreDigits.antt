-- What `digits` is: the digits of its number, and nothing else is that.
use mathlib.Core.Path.{◌≡◌, sym, ap, ◌∙◌}
use mathlib.Core.Bool.{true, false, true≢false}
use mathlib.Core.List.{List, [], ◌∷◌, ◌++◌, append_assoc, append-nil}
use Prim.Native.Nat.{ℕ, ◌+◌, ◌-◌, ◌*◌, ◌/◌, ◌%◌, ◌≤◌, ◌<◌}
use native.Mathlib.Omega.{arith}
use lib.Dec.{ltb, leb, eqb}
use lib.ListN.{length}
use borrow.Author.Tests.{lt-ltb, ltb-true, ltb-false, leb-true, eqb-false, ne_eqb}
use Rattle.whole.proofs.Tests.{by-test, and-true}
use Rattle.whole.specs.Digits.{AreDigits, digits, is_digit, all_digits, leading_zero, value_after, value}
use Rattle.whole.proofs.Digits.{digits-small, digits_more, digits-all, digits-begin, digits-lead, digits-read}

-- ---- they are its digits

plain : (n : ℕ) → leading_zero (digits n) ≡ false
plain n =
    by-test (ltb n 10) (λ e. rw (digits-small n (ltb-true n 10 e)))
    (λ e. let b = digits-lead n (omega (arith, ltb-false n 10 e)) in
    rw b.is
    (by-test (ltb 1 (length (b.head ∷ b.rest))) (λ t. rw (t, ne_eqb b.head 48 (λ q. omega (arith, b.least))))
    (λ t. rw t)))

pub digits_are : (n : ℕ) → AreDigits n (digits n)
digits_are n =
    record {
      some = omega (arith, ap length (digits-begin n).is);
      each = digits-all n;
      plain = plain n;
      stand = digits-read n;
    }

-- ---- and no others are

-- a digit behind a number that is not 0 is the last of the digits of what both stand for
digits-behind : (v d : ℕ) → 0 < v → is_digit d ≡ true → digits (v * 10 + (d - 48)) ≡ digits v ++ (d ∷ [])
digits-behind v d h t =
    let e = and-true (leb 48 d) (leb d 57) t in
    let lo : 48 ≤ d = leb-true 48 d e.0 in
    let hi : d ≤ 57 = leb-true d 57 e.1 in
    let q : (v * 10 + (d - 48)) / 10 ≡ v = omega arith in
    let r : 48 + (v * 10 + (d - 48)) % 10 ≡ d = omega arith in
    digits_more (v * 10 + (d - 48)) (omega arith) ∙ rw (q, r)

after-digits : (v : ℕ) (ds : List ℕ) → 0 < v → all_digits ds ≡ true → digits (value_after v ds) ≡ digits v ++ ds
unfolding value_after all_digits
after-digits v [] h a = rw append-nil
after-digits v (d ∷ ds) h a =
    let e = and-true (is_digit d) (all_digits ds) a in
    after-digits (v * 10 + (d - 48)) ds (omega arith) e.1
    ∙ rw (digits-behind v d h e.0, append_assoc)

-- digits with no leading zero are those of the number that they stand for
pub digits-back : (ds : List ℕ) → 1 ≤ length ds → leading_zero ds ≡ false → all_digits ds ≡ true
    → digits (value ds) ≡ ds
unfolding value value_after all_digits
digits-back [] some lead all = absurd (omega arith)
digits-back (d ∷ ds) some lead all =
    let e = and-true (is_digit d) (all_digits ds) all in
    let t = and-true (leb 48 d) (leb d 57) e.0 in
    let lo : 48 ≤ d = leb-true 48 d t.0 in
    let hi : d ≤ 57 = leb-true d 57 t.1 in
    let q : 0 * 10 + (d - 48) ≡ d - 48 = omega arith in
    let r : 48 + (d - 48) ≡ d = omega arith in
    rw q (go ds lead e.1 lo hi (digits-small (d - 48) (omega arith) ∙ rw r))
  where
    go : (es : List ℕ) → leading_zero (d ∷ es) ≡ false → all_digits es ≡ true → 48 ≤ d → d ≤ 57
        → digits (d - 48) ≡ d ∷ [] → digits (value_after (d - 48) es) ≡ d ∷ es
    go [] l a lo hi one = one
    go (x ∷ es) l a lo hi one =
        after-digits (d - 48) (x ∷ es)
        (by-test (eqb d 48)
        (λ t. absurd (true≢false (rw (lt-ltb 1 (length (d ∷ x ∷ es)) (omega arith), t) at l)))
        (λ t. omega (arith, eqb-false d 48 t)))
        a
        ∙ ap (λ (p : List ℕ). p ++ (x ∷ es)) one

pub digits-only : (n : ℕ) (ds : List ℕ) → AreDigits n ds → ds ≡ digits n
digits-only n ds h = sym (digits-back ds h.some h.plain h.each) ∙ ap digits h.stand
