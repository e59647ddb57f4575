-- Lines of the paper's kind, worked out by the definitions.
use mathlib.Core.Path.{◌≡◌, refl}
use mathlib.Core.List.{[], ◌∷◌}
use Rattle.field.specs.declared.Field.TheVariants.{Bad, Plus, Minus, Letter, Dash}
use Rattle.whole.specs.Digits.{all_digits, value_after, value, digits}
use Rattle.field.specs.Field.{digits_in_form, unsigned, numeral, field_from}
use Rattle.lines.specs.Lines.{split, fields_of, lines_from, lines_in, line_text, text_of_lines}

-- `B 1` with its LF, then `-` with none
unended : lines_in (66 ∷ 32 ∷ 49 ∷ 10 ∷ 45 ∷ []) ≡ (Letter 66 ∷ Plus 1 ∷ []) ∷ (Bad ∷ []) ∷ []
unfolding lines_in lines_from fields_of split field_from numeral unsigned digits_in_form all_digits value_after value
unended = refl

-- two spaces have a field of no byte between them
two-spaces : lines_in (66 ∷ 32 ∷ 32 ∷ 49 ∷ 10 ∷ []) ≡ (Letter 66 ∷ Bad ∷ Plus 1 ∷ []) ∷ []
unfolding lines_in lines_from fields_of split field_from numeral unsigned digits_in_form all_digits value_after value
two-spaces = refl

written : text_of_lines
    ((Letter 66 ∷ Dash ∷ Minus 10 ∷ Plus 0 ∷ []) ∷ []) ≡ 66 ∷ 32 ∷ 45 ∷ 32 ∷ 45 ∷ 49 ∷ 48 ∷ 32 ∷ 48 ∷ 10 ∷ []
unfolding text_of_lines line_text digits
written = refl
