-- The form of a line: so many fields, and what each of them must be.
use Rattle.std.specs.Prelude.{ℕ, suc, List, [], ◌∷◌, Bool, true, false, not, cond, ◌&&◌, ◌||◌, eqb, replicate}
use Rattle.field.specs.declared.Field.{Field}
use Rattle.field.specs.declared.Field.TheVariants.{Bad, Plus, Minus, Letter, Dash}
use Rattle.building.specs.Test.{too_long}
use Rattle.entry.specs.Says.{number, is_dash}
use Rattle.rules.specs.declared.FieldForm.{FieldForm}
use Rattle.rules.specs.declared.FieldForm.TheVariants.{Capital, Count, Number, Mark}

abbrev pub is_letter : Field → Bool
is_letter (Letter b) = true
is_letter (Plus m) = false
is_letter (Minus m) = false
is_letter Dash = false
is_letter Bad = false

-- -0 is no number
abbrev pub is_number : Field → Bool
is_number (Plus m) = true
is_number (Minus m) = not (eqb m 0)
is_number (Letter b) = false
is_number Dash = false
is_number Bad = false

abbrev pub is_short : Field → Bool
is_short f = is_number f && not (too_long (number f))

-- a count may be of any length, since the count of a record may be
unfoldable pub has_form : FieldForm → Field → Bool
has_form Capital f = is_letter f
has_form Count f = is_number f
has_form Number f = is_short f
has_form Mark f = is_dash f || is_short f

-- a field for each form, none too few and none too many
unfoldable pub in_form : List FieldForm → List Field → Bool
in_form [] [] = true
in_form [] (f ∷ fs) = false
in_form (w ∷ ws) [] = false
in_form (w ∷ ws) (f ∷ fs) = has_form w f && in_form ws fs

-- the first field, from 1, that is not of its form, is one too many, or is missing
unfoldable pub first_out : List FieldForm → List Field → ℕ
first_out [] fs = 1
first_out (w ∷ ws) [] = 1
first_out (w ∷ ws) (f ∷ fs) = cond (has_form w f) (suc (first_out ws fs)) 1

abbrev pub number_forms : ℕ → List FieldForm
number_forms n = replicate n Number
