-- The form of a field: a dash, a capital letter, or a number with no plus, no leading zero, no -0 and at most 7
-- digits.
use Rattle.std.specs.Prelude.{ℕ, Bool, cond, not, ◌&&◌, List, ltb, leb, eqb, length, get_or, drop}
use Rattle.field.specs.declared.Field.{Field}
use Rattle.field.specs.declared.Field.TheVariants.{Bad, Plus, Minus, Letter, Dash}
use Rattle.whole.specs.Digits.{all_digits, leading_zero, value}

abbrev pub first_byte : List ℕ → ℕ
first_byte f = get_or f 0 0

-- the digits of a number: some, at most 7, no leading zero, and no other byte
unfoldable pub digits_in_form : List ℕ → Bool
digits_in_form ds = leb 1 (length ds) && leb (length ds) 7 && not (leading_zero ds) && all_digits ds

unfoldable pub unsigned : List ℕ → Field
unsigned ds = cond (digits_in_form ds) (Plus (value ds)) Bad

-- what follows a minus sign: no -0
unfoldable pub negative : List ℕ → Field
negative ds = cond (digits_in_form ds && ltb 0 (value ds)) (Minus (value ds)) Bad

-- a minus sign and digits, or digits alone
unfoldable pub numeral : List ℕ → Field
numeral f = cond (eqb (first_byte f) 45) (negative (drop 1 f)) (unsigned f)

abbrev pub lone_dash : List ℕ → Bool
lone_dash f = eqb (length f) 1 && eqb (first_byte f) 45

abbrev pub lone_capital : List ℕ → Bool
lone_capital f = eqb (length f) 1 && (leb 65 (first_byte f) && leb (first_byte f) 90)

-- a dash alone, a capital letter alone, or else a number
unfoldable pub field_from : List ℕ → Field
field_from f = cond (lone_dash f) Dash (cond (lone_capital f) (Letter (first_byte f)) (numeral f))
