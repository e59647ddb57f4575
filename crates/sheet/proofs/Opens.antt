-- Laws of the byte that a text begins with: a sheet with heights opens with a field that is a letter alone.
use Prim.Native.Nat.{ℕ}
use mathlib.Core.Path.{◌≡◌, refl, ap, sym, ◌∙◌}
use mathlib.Core.Bool.{Bool, false, ◌&&◌}
use mathlib.Core.List.{List, [], ◌∷◌, map}
use native.Mathlib.Omega.{arith}
use lib.Dec.{eqb, ltb}
use lib.ListN.{length, get_or, drop}
use borrow.Author.Tests.{ne_eqb}
use Rattle.whole.proofs.Tests.{by-test}
use Rattle.whole.specs.Digits.{value}
use Rattle.field.specs.Field.{first_byte, digits_in_form, unsigned, negative, numeral, lone_dash, lone_capital}
use Rattle.field.specs.Field.{field_from}
use Rattle.lines.specs.Lines.{onto, split, fields_of, lines_from, lines_in}
use Rattle.entry.specs.Says.{letter, at}
use Rattle.job.specs.Carried.{nothing}
use Rattle.job.specs.Walk.{walk, opening, sheet, read_lines}
use Rattle.sheet.specs.Sheet.{reading}

unsigned-letter : (ds : List ℕ) → letter (unsigned ds) ≡ 0
unfolding unsigned
unsigned-letter ds = by-test (digits_in_form ds) (λ t. rw t) (λ t. rw t)

negative-letter : (ds : List ℕ) → letter (negative ds) ≡ 0
unfolding negative
negative-letter ds = by-test (digits_in_form ds && ltb 0 (value ds)) (λ t. rw t) (λ t. rw t)

numeral-letter : (f : List ℕ) → letter (numeral f) ≡ 0
unfolding numeral
numeral-letter f =
    by-test (eqb (first_byte f) 45) (λ t. rw t (negative-letter (drop 1 f))) (λ t. rw t (unsigned-letter f))

-- the letter of a field is its first byte
field-letter : (f : List ℕ) → letter (field_from f) ≡ 86 → first_byte f ≡ 86
unfolding field_from
field-letter f e =
    by-test (lone_dash f)
    (λ t. let z : ◌≡◌ {A = ℕ} 0 86 = rw t at e in absurd (omega (arith, z)))
    (λ t.
    by-test (lone_capital f) (λ u. rw (t, u) at e)
    (λ u. let z : letter (numeral f) ≡ 86 = rw (t, u) at e in absurd (omega (arith, z, numeral-letter f))))

fields-letter : (fs : List (List ℕ)) → letter (at (map field_from fs) 0) ≡ 86 → first_byte (get_or fs 0 []) ≡ 86
fields-letter [] e = e
fields-letter (f ∷ fs) e = field-letter f e

-- the first of the parts between bytes b begins as the text does
onto-first : (x : ℕ) (ps : List (List ℕ)) → first_byte (get_or (onto x ps) 0 []) ≡ x
onto-first x [] = refl
onto-first x (p ∷ ps) = refl

split-first : (b : ℕ) (s : List ℕ) → first_byte (get_or (split b s) 0 []) ≡ 86 → first_byte s ≡ 86
unfolding split
split-first b [] e = e
split-first b (x ∷ s) e =
    by-test (eqb x b)
    (λ t. let z : ◌≡◌ {A = ℕ} 0 86 = rw t at e in absurd (omega (arith, z)))
    (λ t.
    let z : first_byte (get_or (onto x (split b s)) 0 []) ≡ 86 = rw t at e in
    sym (onto-first x (split b s)) ∙ z)

lines-opening : (ps : List (List ℕ)) → (first_byte (get_or ps 0 []) ≡ 86 → ⊥) → opening (lines_from ps) ≡ false
unfolding lines_from fields_of
lines-opening [] n = refl
lines-opening ([] ∷ []) n = refl
lines-opening ((b ∷ l) ∷ []) n = refl
lines-opening ([] ∷ m ∷ ls) n = ne_eqb _ 86 (λ e. n (split-first 32 [] (fields-letter (split 32 []) e)))
lines-opening ((b ∷ l) ∷ m ∷ ls) n =
    ne_eqb _ 86 (λ e. n (split-first 32 (b ∷ l) (fields-letter (split 32 (b ∷ l)) e)))

-- a text that begins with another byte has no heights
pub opens-low : (s : List ℕ) → (get_or s 0 0 ≡ 86 → ⊥) → walk (sheet false) nothing 1 (lines_in s) ≡ reading s
unfolding reading read_lines lines_in
opens-low s n =
    ap (λ (h : Bool). walk (sheet h) nothing 1 (lines_in s))
    (sym (lines-opening (split 10 s) (λ e. n (split-first 10 s e))))

pub empty-byte : (s : List ℕ) → length s ≡ 0 → get_or s 0 0 ≡ 86 → ⊥
empty-byte [] e z = omega (arith, z)
empty-byte (x ∷ s) e z = omega (arith, e)
