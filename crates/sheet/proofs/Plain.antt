-- Laws of a plain line: digits that stand one after another are those of a number, and fields in form that stand one
-- after another up to LF are the line.
use Prim.Native.Nat.{ℕ, zero, suc, ◌+◌, ◌-◌, ◌*◌, ◌/◌, ◌%◌, ◌^◌, ◌≤◌, ◌<◌}
use mathlib.Core.Path.{◌≡◌, refl, ap, ◌∙◌, sym}
use mathlib.Core.Bool.{Bool, true, false, not, false≢true}
use mathlib.Core.List.{List, [], ◌∷◌, ◌++◌, map, append_assoc}
use native.Mathlib.Omega.{arith}
use native.Mathlib.Numerals.{add-one}
use native.Mathlib.Nat.{le_refl}
use lib.Dec.{ltb}
use lib.IntN.{ℤ, pos, negsuc, neg_ℤ}
use borrow.Author.Tests.{ltb-true, ltb-false}
use Rattle.whole.proofs.Tests.{by-test}
use lib.ListN.{length, get_or, take, drop, set}
use lib.Seq.{drop-cons, take-suc, take-set-le, lt-length-set, get_or-set_same, get_or-set_other, sets}
use Rattle.whole.specs.Digits.{digits, decimal}
use mir.Syntax.{w64}
use mir.Val.{SFits, to_z, of_z}
use mir.ValLaws.{to_z-of_z}
use Rattle.whole.proofs.Size.{num≤, nat, back}
use Rattle.whole.proofs.Pieces.{map-append}
use Rattle.field.specs.declared.Field.{Field}
use Rattle.lines.specs.Lines.{field_text, line_text}
use Rattle.sheet.specs.Said.{Ended, number_field, Short, DigitsStand, NumberStands}
use Rattle.whole.proofs.Digits.{digits-small, digits_more}

-- ---- digits

-- one digit more
digits-next : (v b : ℕ) → 0 < v → 48 ≤ b → b ≤ 57 → digits (v * 10 + (b - 48)) ≡ digits v ++ (b ∷ [])
digits-next v b some lo hi =
    let q : (v * 10 + (b - 48)) / 10 ≡ v = omega arith in
    let r : 48 + (v * 10 + (b - 48)) % 10 ≡ b = omega arith in
    digits_more (v * 10 + (b - 48)) (omega arith) ∙ rw (q, r)

digits-one : (b : ℕ) → 48 ≤ b → b ≤ 57 → digits (b - 48) ≡ b ∷ []
digits-one b lo hi =
    let q : 48 + (b - 48) ≡ b = omega arith in
    digits-small (b - 48) (omega arith) ∙ rw q

module _ (s : List ℕ) (i : ℕ) (h : i < length s) where
  abbrev byte : ℕ
  byte = get_or s i 0

  pub next-byte : drop i s ≡ byte ∷ drop (i + 1) s
  next-byte = rw add-one (drop-cons s i 0 h)

  module _ (lo : 48 ≤ byte) (hi : byte ≤ 57) where
    pub digit-on : (v : ℕ) → 0 < v → digits v ++ drop i s ≡ digits (v * 10 + (byte - 48)) ++ drop (i + 1) s
    digit-on v some =
        ap (λ (t : List ℕ). digits v ++ t) next-byte
        ∙ sym
        (ap (λ (t : List ℕ). t ++ drop (i + 1) s) (digits-next v byte some lo hi)
        ∙ append_assoc (digits v) (byte ∷ []) (drop (i + 1) s))

    -- the first
    pub digit-first : drop i s ≡ digits (byte - 48) ++ drop (i + 1) s
    digit-first = next-byte ∙ sym (ap (λ (t : List ℕ). t ++ drop (i + 1) s) (digits-one byte lo hi))

-- behind a byte that is no LF stands another
pub on : (s : List ℕ) {i : ℕ} → Ended s → i < length s → (get_or s i 0 ≡ 10 → ⊥) → i + 1 < length s
on s {i} e h n =
    by-test (ltb (i + 1) (length s)) (λ t. ltb-true (i + 1) (length s) t)
    (λ t.
    let q : length s - 1 ≡ i = omega (arith, ltb-false (i + 1) (length s) t) in
    absurd (n (rw q at e)))

-- a text that is told to end in LF
pub told : (b : Bool) → not b ≡ false → b ≡ true
told true e = refl
told false e = absurd (false≢true (sym e))

-- digits with a minus sign before them, and without
pub minus-stands : (s : List ℕ) (at n x next : ℕ) → at < length s → get_or s at 0 ≡ 45 → (n ≡ 0 → ⊥) → n < 10 ^ 7
    → DigitsStand s (at + 1) n x next → NumberStands s at (neg_ℤ (pos n)) x next
unfolding decimal
minus-stands s at zero x next h b some few d = absurd (some refl)
minus-stands s at (suc n) x next h b some few d =
    record {
      within = d.within;
      short = few;
      text = next-byte s at h ∙ (λ i. b i ∷ d.text i);
      goes_on = d.goes_on;
    }

pub plain-stands : (s : List ℕ) (at n x next : ℕ) → n < 10 ^ 7 → DigitsStand s at n x next
    → NumberStands s at (pos n) x next
unfolding decimal
plain-stands s at n x next few d =
    record { within = d.within; short = few; text = d.text; goes_on = d.goes_on }

-- two bytes
pub two_bytes : (s : List ℕ) (i b x : ℕ) → i + 2 ≤ length s → b ≡ get_or s i 0 → get_or s (i + 1) 0 ≡ x
    → drop i s ≡ b ∷ x ∷ drop (i + 2) s
two_bytes s i b x h e f =
    let q : i + 1 + 1 ≡ i + 2 = omega arith in
    next-byte s i (omega arith)
    ∙ (λ j. sym e j ∷ next-byte s (i + 1) (omega arith) j)
    ∙ rw (f, q)

-- ---- numbers in a line

-- a short number is read back as it was stored
pub short_back : (z : ℤ) → Short z → to_z w64 (of_z w64 z) ≡ z
short_back z h = (back w64 (num≤ z {k = 9999999} (omega (arith, h))) tt).same

-- as is a number of a list, and a byte
pub read_back : (v : List ℤ) (i : ℕ) → SFits w64 (get_or v i (pos 0))
    → to_z w64 (of_z w64 (get_or v i (pos 0))) ≡ get_or v i (pos 0)
read_back v i h = to_z-of_z w64 (get_or v i (pos 0)) h

pub byte-back : (b : ℕ) → b ≤ 255 → to_z w64 b ≡ pos b
byte-back b h = (nat w64 {n = b} 255 h tt).same

-- the text of numbers with a space between two and the byte x behind the last
pub passed : ℕ → List ℤ → List ℕ
passed x [] = []
passed x (z ∷ zs) = line_text (map number_field (z ∷ zs)) ++ (x ∷ [])

pub number-text : (z : ℤ) → field_text (number_field z) ≡ decimal z
unfolding decimal
number-text (pos n) = refl
number-text (negsuc n) = refl

line-more : (f : Field) (fs : List Field) (g : Field)
    → line_text ((f ∷ fs) ++ (g ∷ [])) ≡ line_text (f ∷ fs) ++ (32 ∷ field_text g)
unfolding line_text
line-more f [] g = refl
line-more f (h ∷ fs) g =
    ap (λ (t : List ℕ). field_text f ++ (32 ∷ t)) (line-more h fs g)
    ∙ sym (append_assoc (field_text f) (32 ∷ line_text (h ∷ fs)) (32 ∷ field_text g))

pub passed_none : (x : ℕ) → passed x [] ≡ []
unfolding passed
passed_none x = refl

pub passed-all : (x : ℕ) (zs : List ℤ) (t : List ℕ) → 0 < length zs
    → passed x zs ++ t ≡ line_text (map number_field zs) ++ (x ∷ t)
unfolding passed
passed-all x [] t h = absurd (omega arith)
passed-all x (z ∷ zs) t h = append_assoc (line_text (map number_field (z ∷ zs))) (x ∷ []) t

-- one number more
pub passed-more : (zs : List ℤ) (z : ℤ) (x : ℕ) (t : List ℕ)
    → passed 32 zs ++ (decimal z ++ (x ∷ t)) ≡ passed x (zs ++ (z ∷ [])) ++ t
unfolding passed line_text
passed-more [] z x t =
    ap (λ (l : List ℕ). l ++ (x ∷ t)) (sym (number-text z)) ∙ sym (append_assoc (field_text (number_field z))
    (x ∷ []) t)
passed-more (y ∷ zs) z x t =
    let fs = map number_field (y ∷ zs) in
    append_assoc (line_text fs) (32 ∷ []) (decimal z ++ (x ∷ t))
    ∙ ap (λ (l : List ℕ). line_text fs ++ (32 ∷ (l ++ (x ∷ t)))) (sym (number-text z))
    ∙ sym (append_assoc (line_text fs) (32 ∷ field_text (number_field z)) (x ∷ t))
    ∙ ap (λ (l : List ℕ). l ++ (x ∷ t)) (sym (line-more (number_field y) (map number_field zs) (number_field z)))
    ∙ ap (λ (l : List Field). line_text l ++ (x ∷ t)) (sym (map-append number_field (y ∷ zs) (z ∷ [])))
    ∙ sym (append_assoc (line_text (map number_field ((y ∷ zs) ++ (z ∷ [])))) (x ∷ []) t)

-- the same in a text
pub passed-next : {s : List ℕ} {next : ℕ} {z : ℤ} {x end : ℕ} → NumberStands s next z x end
    → (zs : List ℤ) {ys : List ℤ} {w : ℕ} → w ≡ 32 → ys ≡ zs ++ (z ∷ [])
    → passed w zs ++ drop next s ≡ passed x ys ++ drop end s
passed-next {s} {z = z} {x} {end} n zs sp y =
    (λ i. passed (sp i) zs ++ n.text i)
    ∙ passed-more zs z x (drop end s)
    ∙ ap (λ (l : List ℤ). passed x l ++ drop end s) (sym y)

-- a number stored behind k others
module _ (number : List ℤ) (k : ℕ) (h : k < length number) {v z : ℤ} (e : v ≡ z) where
  pub stored-take : take (k + 1) (set number k v) ≡ take k number ++ (z ∷ [])
  stored-take =
      ap (λ (n : ℕ). take n (set number k v)) (add-one k)
      ∙ take-suc (set number k v) k (pos 0) (lt-length-set number k v h)
      ∙ (λ i. take-set-le k number k v (le_refl k) i ++ ((get_or-set_same number k v (pos 0) h ∙ e) i ∷ []))

  pub stored_past : {n : ℕ} → ((i : ℕ) → k ≤ i → i < n → get_or number i (pos 0) ≡ pos 0) → (i : ℕ) → k + 1 ≤ i → i < n
      → get_or (set number k v) i (pos 0) ≡ pos 0
  stored_past p i l m = get_or-set_other number k i v (pos 0) (λ q. omega (arith, q)) ∙ p i (omega arith) m

-- one more stored behind others
pub sets_more : (l : List ℤ) (i : ℕ) (s : List ℤ) (z : ℤ)
    → sets l i (s ++ (z ∷ [])) ≡ set (sets l i s) (i + length s) z
sets_more l i [] z = ap (λ (k : ℕ). set l k z) (omega arith)
sets_more l i (v ∷ s) z =
    let q : suc i + length s ≡ i + suc (length s) = omega arith in
    sets_more (set l i v) (suc i) s z ∙ ap (λ (k : ℕ). set (sets (set l i v) (suc i) s) k z) q
