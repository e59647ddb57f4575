-- Fields written and read again, and a text read and written again: each gives back what it began with.
use Prim.Native.Nat.{ℕ, suc, ◌+◌, ◌-◌, ◌*◌, ◌/◌, ◌%◌, ◌^◌, ◌≤◌, ◌<◌}
use mathlib.Core.Path.{◌≡◌, refl, ap, ◌∙◌, sym}
use mathlib.Core.Bool.{true, ◌&&◌}
use mathlib.Core.List.{List, [], ◌∷◌, ◌++◌, map}
use native.Mathlib.Nat.{add-zero, lt_of_lt_of_le, pow-le-pow_right}
use native.Mathlib.Omega.{arith}
use lib.Dec.{ltb, leb, eqb, lit<}
use lib.ListN.{length, drop, length-append}
use borrow.Author.Tests.{eqb-true, leb-true, ltb-true}
use Rattle.whole.proofs.Tests.{by-test, and-true}
use Rattle.field.specs.declared.Field.{Field}
use Rattle.field.specs.declared.Field.TheVariants.{Bad, Plus, Minus, Letter, Dash}
use Rattle.whole.specs.Digits.{digits, is_digit, all_digits, value_after, value}
use Rattle.field.specs.Field.{first_byte, digits_in_form, unsigned, negative, numeral, field_from, lone_dash}
use Rattle.field.specs.Field.{lone_capital}
use Rattle.whole.specs.Lists.{Every}
use Rattle.lines.specs.Lines.{split, fields_of, lines_from, lines_in, field_text, line_text, text_of_lines}
use Rattle.lines.specs.Lines.{InForm, LinesInForm}
use Rattle.lines.specs.Lines.{NotBad}
use Rattle.whole.proofs.Digits.{by-tens, digits-small, digits_more, digits-length}
use Rattle.whole.proofs.AreDigits.{digits-back}
use Rattle.field.proofs.Fields.{form-parts, field-digits, field-minus, field-dash, field-letter, value_grows}
use Rattle.lines.specs.Held.{until}
use Rattle.lines.proofs.Lines.{Free, free-append, free_one, split-until, split-seam, split_one, joined}
use Rattle.lines.proofs.Lines.{split-joined, rows_none, rows-seam}

-- ---- a field written, then read

pub field-text : (f : Field) → InForm f → field_from (field_text f) ≡ f
field-text Bad h = absurd h
field-text (Plus n) h = field-digits n h
field-text (Minus n) h = field-minus n h.0 h.1
field-text (Letter b) h = sym (field-letter (b ∷ []) refl (λ e. omega (arith, h.0)) h.0 h.1)
field-text Dash h = sym (field-dash (45 ∷ []) refl refl)

-- no space and no LF stands in it
digits-free : (b : ℕ) → b < 48 → (n : ℕ) → Free b (digits n)
digits-free b h = by-tens (λ n. Free b (digits n))
    (λ n k. rw (digits-small n k) (free_one b (48 + n) (λ e. omega arith)))
    (λ n k ih.
    rw (digits_more n k)
    (free-append b (digits (n / 10)) ((48 + n % 10) ∷ []) ih (free_one b (48 + n % 10) (λ e. omega arith))))

pub field-free : (f : Field) (b : ℕ) → b < 45 → InForm f → Free b (field_text f)
field-free Bad b h i = absurd i
field-free (Plus n) b h i = digits-free b (omega arith) n
field-free (Minus n) b h i =
    free-append b (45 ∷ []) (digits n) (free_one b 45 (λ e. omega arith)) (digits-free b (omega arith) n)
field-free (Letter c) b h i = free_one b c (λ e. omega (arith, i.0))
field-free Dash b h i = free_one b 45 (λ e. omega arith)

pub line-free : (fs : List Field) → Every InForm fs → Free 10 (line_text fs)
unfolding line_text until
line-free [] a = refl
line-free (f ∷ []) a = field-free f 10 (omega arith) a.0
line-free (f ∷ g ∷ fs) a =
    free-append 10 (field_text f) (32 ∷ line_text (g ∷ fs)) (field-free f 10 (omega arith) a.0)
    (free-append 10 (32 ∷ []) (line_text (g ∷ fs)) (free_one 10 32 (λ e. omega arith)) (line-free (g ∷ fs) a.1))

pub line-fields : (f : Field) (fs : List Field) → Every InForm (f ∷ fs) → fields_of (line_text (f ∷ fs)) ≡ f ∷ fs
unfolding fields_of line_text
line-fields f [] a =
    ap (map field_from) (split_one 32 (field_text f) (field-free f 32 (omega arith) a.0))
    ∙ ap (λ (x : Field). x ∷ []) (field-text f a.0)
line-fields f (g ∷ fs) a =
    ap (map field_from) (split-seam 32 (field_text f) (line_text (g ∷ fs)) (field-free f 32 (omega arith) a.0))
    ∙ ap (λ (x : Field). x ∷ fields_of (line_text (g ∷ fs))) (field-text f a.0)
    ∙ ap (λ (l : List Field). f ∷ l) (line-fields g fs a.1)

-- lines of fields in form, written, are read as themselves
pub text-rows : (xs : List (List Field)) → LinesInForm xs → lines_in (text_of_lines xs) ≡ xs
unfolding text_of_lines
text-rows [] a = rows_none
text-rows ([] ∷ xs) a = absurd (omega (arith, a.0.0))
text-rows ((f ∷ fs) ∷ xs) a =
    rows-seam (line_text (f ∷ fs)) (text_of_lines xs) (line-free (f ∷ fs) a.0.1)
    ∙ ap (λ (x : List Field). x ∷ lines_in (text_of_lines xs)) (line-fields f fs a.0.1)
    ∙ ap (λ (r : List (List Field)). (f ∷ fs) ∷ r) (text-rows xs a.1)

-- ---- a text read, then written

-- a field that is not Bad has one text
unsigned-text : (s : List ℕ) → NotBad (unsigned s) → field_text (unsigned s) ≡ s
unfolding unsigned
unsigned-text s h =
    by-test (digits_in_form s) (λ t. rw t (let p = form-parts s t in digits-back s p.some p.lead p.all))
    (λ t. absurd (rw t at h))

negative-text : (s : List ℕ) → NotBad (negative s) → field_text (negative s) ≡ 45 ∷ s
unfolding negative
negative-text s h =
    by-test (digits_in_form s && ltb 0 (value s))
    (λ t.
    rw t
    (let p = form-parts s (and-true (digits_in_form s) (ltb 0 (value s)) t).0 in
    ap (λ (l : List ℕ). 45 ∷ l) (digits-back s p.some p.lead p.all)))
    (λ t. absurd (rw t at h))

number-text : (s : List ℕ) → NotBad (numeral s) → field_text (numeral s) ≡ s
unfolding numeral
number-text [] h = unsigned-text [] h
number-text (x ∷ xs) h =
    by-test (eqb x 45) (λ t. rw t (negative-text xs (rw t at h) ∙ ap (λ (b : ℕ). b ∷ xs) (sym (eqb-true x 45 t))))
    (λ t. rw t (unsigned-text (x ∷ xs) (rw t at h)))

alone : (s : List ℕ) (b : ℕ) → eqb (length s) 1 ≡ true → b ≡ first_byte s → b ∷ [] ≡ s
alone [] b h e = absurd (omega (arith, eqb-true 0 1 h))
alone (x ∷ []) b h e = ap (λ (y : ℕ). y ∷ []) e
alone (x ∷ y ∷ s) b h e = absurd (omega (arith, eqb-true (length (x ∷ y ∷ s)) 1 h))

pub field_back : (s : List ℕ) → NotBad (field_from s) → field_text (field_from s) ≡ s
unfolding field_from
field_back s h =
    by-test (lone_dash s)
    (λ t.
    let e = and-true (eqb (length s) 1) (eqb (first_byte s) 45) t in
    rw t (alone s 45 e.0 (sym (eqb-true (first_byte s) 45 e.1))))
    (λ t. by-test (lone_capital s)
    (λ u.
    let one = (and-true (eqb (length s) 1) (leb 65 (first_byte s) && leb (first_byte s) 90) u).0 in
    rw (t, u) (alone s (first_byte s) one refl))
    (λ u. rw (t, u) (number-text s (rw (t, u) at h))))

parts-text : (ps : List (List ℕ)) → Every NotBad (map field_from ps) → line_text (map field_from ps) ≡ joined 32 ps
unfolding line_text joined
parts-text [] a = refl
parts-text (p ∷ []) a = field_back p a.0
parts-text (p ∷ q ∷ ps) a =
    ap (λ (l : List ℕ). l ++ (32 ∷ line_text (map field_from (q ∷ ps)))) (field_back p a.0)
    ∙ ap (λ (l : List ℕ). p ++ (32 ∷ l)) (parts-text (q ∷ ps) a.1)

fields-text : (l : List ℕ) → Every NotBad (fields_of l) → line_text (fields_of l) ≡ l
unfolding fields_of
fields-text l a = parts-text (split 32 l) a ∙ split-joined 32 l

lines-text : (ls : List (List ℕ)) → Every (Every NotBad) (lines_from ls) → text_of_lines (lines_from ls) ≡ joined 10 ls
unfolding lines_from text_of_lines joined
lines-text [] a = refl
lines-text ([] ∷ []) a = refl
lines-text ((b ∷ l) ∷ []) a = absurd a.0.0
lines-text (l ∷ m ∷ ls) a =
    ap (λ (t : List ℕ). t ++ (10 ∷ text_of_lines (lines_from (m ∷ ls)))) (fields-text l a.0)
    ∙ ap (λ (t : List ℕ). l ++ (10 ∷ t)) (lines-text (m ∷ ls) a.1)

-- a text with no field out of form, read, is written as itself
pub rows-text : (s : List ℕ) → Every (Every NotBad) (lines_in s) → text_of_lines (lines_in s) ≡ s
unfolding lines_in
rows-text s a = lines-text (split 10 s) a ∙ split-joined 10 s

-- ---- what is read is in form

value-below : (ds : List ℕ) (v k : ℕ) → v < 10 ^ k → all_digits ds ≡ true → value_after v ds < 10 ^ (k + length ds)
unfolding value_after all_digits
value-below [] v k h a = rw add-zero h
value-below (d ∷ ds) v k h a =
    let e = and-true (is_digit d) (all_digits ds) a in
    let hi : d ≤ 57 = leb-true d 57 (and-true (leb 48 d) (leb d 57) e.0).1 in
    let q : k + 1 + length ds ≡ k + suc (length ds) = omega arith in
    rw q at (value-below ds (v * 10 + (d - 48)) (k + 1) (value_grows v k (d - 48) h (omega arith)) e.1)

pub form-value : (ds : List ℕ) → digits_in_form ds ≡ true → value ds < 10 ^ 7
unfolding value
form-value ds t =
    let p = form-parts ds t in
    lt_of_lt_of_le (value-below ds 0 0 (omega arith) p.all)
    (pow-le-pow_right {n = 10} (lit< tt) {i = 0 + length ds} {j = 7} (omega (arith, p.short)))

number-form : (s : List ℕ) → NotBad (numeral s) → InForm (numeral s)
unfolding numeral unsigned negative
number-form s h =
    by-test (eqb (first_byte s) 45)
    (λ t. by-test (digits_in_form (drop 1 s) && ltb 0 (value (drop 1 s)))
    (λ u.
    let e = and-true (digits_in_form (drop 1 s)) (ltb 0 (value (drop 1 s))) u in
    rw (t, u) (ltb-true _ _ e.1, form-value (drop 1 s) e.0))
    (λ u. absurd (rw (t, u) at h)))
    (λ t. by-test (digits_in_form s) (λ u. rw (t, u) (form-value s u)) (λ u. absurd (rw (t, u) at h)))

pub field-form : (s : List ℕ) → NotBad (field_from s) → InForm (field_from s)
unfolding field_from
field-form s h =
    by-test (lone_dash s) (λ t. rw t tt)
    (λ t. by-test (lone_capital s)
    (λ u.
    let e =
    and-true (leb 65 (first_byte s)) (leb (first_byte s) 90)
    (and-true (eqb (length s) 1) (leb 65 (first_byte s) && leb (first_byte s) 90) u).1 in
    rw (t, u) (leb-true _ _ e.0, leb-true _ _ e.1))
    (λ u. rw (t, u) (number-form s (rw (t, u) at h))))

parts-form : (ps : List (List ℕ)) → Every NotBad (map field_from ps) → Every InForm (map field_from ps)
parts-form [] a = tt
parts-form (p ∷ ps) a = (field-form p a.0, parts-form ps a.1)

lines-form : (ls : List (List ℕ)) → Every (Every NotBad) (lines_from ls) → LinesInForm (lines_from ls)
unfolding lines_from fields_of
lines-form [] a = tt
lines-form ([] ∷ []) a = tt
lines-form ((b ∷ l) ∷ []) a = absurd a.0.0
lines-form (l ∷ m ∷ ls) a =
    ((rw (split-until 32 l) (omega arith), parts-form (split 32 l) a.0), lines-form (m ∷ ls) a.1)

pub rows-form : (s : List ℕ) → Every (Every NotBad) (lines_in s) → LinesInForm (lines_in s)
unfolding lines_in
rows-form s a = lines-form (split 10 s) a

-- ---- how long a text is

pub field-length : (f : Field) → InForm f → length (field_text f) ≤ 8
field-length Bad h = absurd h
field-length (Plus n) h = omega (arith, digits-length 6 n h)
field-length (Minus n) h = omega (arith, digits-length 6 n h.1)
field-length (Letter b) h = omega arith
field-length Dash h = omega arith

-- a field, and the space or the LF behind it, take at most 9 bytes
pub line-length : (fs : List Field) → 0 < length fs → Every InForm fs → length (line_text fs) + 1 ≤ 9 * length fs
unfolding line_text
line-length [] h a = absurd (omega arith)
line-length (f ∷ []) h a = omega (arith, field-length f a.0)
line-length (f ∷ g ∷ fs) h a =
    rw length-append (omega (arith, field-length f a.0, line-length (g ∷ fs) (omega arith) a.1))
