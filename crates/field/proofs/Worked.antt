-- Fields of the paper's kind, worked out by the definitions.
use mathlib.Core.Path.{◌≡◌, refl}
use mathlib.Core.List.{[], ◌∷◌}
use Rattle.field.specs.declared.Field.TheVariants.{Bad, Plus, Minus, Dash}
use Rattle.whole.specs.Digits.{all_digits, value_after, value}
use Rattle.field.specs.Field.{digits_in_form, unsigned, negative, numeral, field_from}

-- 9999999 and 12345678, 0 and 00
seven-digits : field_from (57 ∷ 57 ∷ 57 ∷ 57 ∷ 57 ∷ 57 ∷ 57 ∷ []) ≡ Plus 9999999
unfolding field_from numeral unsigned digits_in_form all_digits value_after value
seven-digits = refl

eight-digits : field_from (49 ∷ 50 ∷ 51 ∷ 52 ∷ 53 ∷ 54 ∷ 55 ∷ 56 ∷ []) ≡ Bad
unfolding field_from numeral unsigned digits_in_form
eight-digits = refl

zero-alone : field_from (48 ∷ []) ≡ Plus 0
unfolding field_from numeral unsigned digits_in_form all_digits value_after value
zero-alone = refl

leading-zero : field_from (48 ∷ 48 ∷ []) ≡ Bad
unfolding field_from numeral unsigned digits_in_form
leading-zero = refl

-- -90, -0, -, --, +0
minus-ninety : field_from (45 ∷ 57 ∷ 48 ∷ []) ≡ Minus 90
unfolding field_from numeral negative digits_in_form all_digits value_after value
minus-ninety = refl

minus-zero : field_from (45 ∷ 48 ∷ []) ≡ Bad
unfolding field_from numeral negative digits_in_form all_digits value_after value
minus-zero = refl

dash : field_from (45 ∷ []) ≡ Dash
unfolding field_from
dash = refl

two-dashes : field_from (45 ∷ 45 ∷ []) ≡ Bad
unfolding field_from numeral negative digits_in_form all_digits
two-dashes = refl

plus-sign : field_from (43 ∷ 48 ∷ []) ≡ Bad
unfolding field_from numeral unsigned digits_in_form all_digits
plus-sign = refl

-- a small letter, no byte at all
small-letter : field_from (97 ∷ []) ≡ Bad
unfolding field_from numeral unsigned digits_in_form all_digits
small-letter = refl

nothing : field_from [] ≡ Bad
unfolding field_from numeral unsigned digits_in_form
nothing = refl
