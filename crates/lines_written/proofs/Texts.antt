-- Laws of the text of a line, field by field, and of lines one behind the other.
use Prim.Native.Nat.{ℕ, zero, suc, ◌+◌, ◌<◌}
use mathlib.Core.Path.{◌≡◌, refl, ap, ◌∙◌, sym}
use mathlib.Core.List.{List, [], ◌∷◌, ◌++◌, append_assoc}
use native.Mathlib.Numerals.{add-one}
use native.Mathlib.Omega.{arith}
use lib.ListN.{length, get_or, take}
use Rattle.field.specs.declared.Field.{Field}
use Rattle.field.specs.declared.Field.TheVariants.{Bad}
use Rattle.lines.specs.Lines.{field_text, line_text, text_of_lines}

-- where there is no first field, Bad has no text either
pub line_first : (fs : List Field) → line_text (take 1 fs) ≡ field_text (get_or fs 0 Bad)
unfolding line_text
line_first [] = refl
line_first (f ∷ fs) = refl

line-later : (fs : List Field) (i : ℕ) → suc i < length fs
    → line_text (take (suc (suc i)) fs) ≡ line_text (take (suc i) fs) ++ (32 ∷ field_text (get_or fs (suc i) Bad))
unfolding line_text
line-later [] i h = absurd (omega arith)
line-later (f ∷ []) i h = absurd (omega arith)
line-later (f ∷ g ∷ fs) zero h = refl
line-later (f ∷ g ∷ fs) (suc i) h =
    ap (λ (t : List ℕ). field_text f ++ (32 ∷ t)) (line-later (g ∷ fs) i (omega arith)) ∙ rw append_assoc

pub line-next : (fs : List Field) (i : ℕ) → 0 < i → i < length fs
    → line_text (take (i + 1) fs) ≡ line_text (take i fs) ++ (32 ∷ field_text (get_or fs i Bad))
line-next fs zero h k = absurd (omega arith)
line-next fs (suc i) h k = rw add-one (line-later fs i k)

-- the text of more lines
pub text_of-append : (xs ys : List (List Field)) → text_of_lines (xs ++ ys) ≡ text_of_lines xs ++ text_of_lines ys
unfolding text_of_lines
text_of-append [] ys = refl
text_of-append (x ∷ xs) ys =
    ap (λ (t : List ℕ). line_text x ++ (10 ∷ t)) (text_of-append xs ys)
    ∙ sym (append_assoc (line_text x) (10 ∷ text_of_lines xs) (text_of_lines ys))
