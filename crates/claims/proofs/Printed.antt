-- The printed cases of paper 01, P1 to P12 and the two sheets under them: one table, and one claim about the
-- definitions.
use Prim.Native.String.{String}
use Prim.Native.Nat.{ℕ}
use mathlib.Core.Path.{◌≡◌, refl}
use mathlib.Core.List.{List, [], ◌∷◌}
use lib.IntN.{ℤ, pos, neg_ℤ}
use Rattle.std.specs.Prelude.{Ok}
use Rattle.whole.proofs.Quoted.{bytes}
use Rattle.whole.specs.Lists.{Every}
use Rattle.whole.specs.Round.{half_up, round_away, round_down, left_over}
use Rattle.whole.specs.Newton.{newtons, remainder}
use Rattle.whole.specs.Digits.{all_digits, value_after, value}
use Rattle.verdict.specs.Verdict.{refusal}
use Rattle.field.specs.Field.{digits_in_form, unsigned, negative, numeral, field_from}
use Rattle.lines.specs.Lines.{split, fields_of, lines_from, lines_in}
use Rattle.building.specs.declared.Building.{Building}
use Rattle.building.specs.Test.{beyond, too_long}
use Rattle.whole.specs.Lowest.{divisor_up_to, common_divisor}
use Rattle.book.specs.Line.{way_in, on_straight}
use Rattle.book.specs.Walls.{wall_row}
use Rattle.book.specs.Gable.{block_of}
use Rattle.book.specs.Roofs.{roof_way}
use Rattle.building.specs.Roof.{roof_of}
use Rattle.building.specs.Building.{given_fault, building_fault, out_of_form, out_of_range, out_of_walls, out_of_roof}
use Rattle.book.specs.declared.Values.{Values}
use Rattle.book.specs.declared.Values.TheVariants.{One}
use Rattle.building.specs.Places.{E, L1, zone_on, local_on, knows, place_on}
use Rattle.building.specs.Question.{asked_of}
use Rattle.book.specs.Question.{outside_of, coefficient_of, wall_column, gable_column, single_column, flat_column}
use Rattle.book.specs.Question.{roof_column, two_signs}
use Rattle.rules.specs.Form.{has_form, in_form}
use Rattle.entry.specs.Says.{both}
use Rattle.rules.specs.Sections.{line_fault}
use Rattle.job.specs.Walk.{walk, verdict, read_lines}
use Rattle.sheet.specs.Sheet.{reading}
use Rattle.worst.specs.declared.Axis.TheVariants.{X}
use Rattle.worst.specs.Forces.{force}
use Rattle.worst.specs.Speed.{factor_at, speed_at}

-- ---- what a row says

-- a coefficient's alternatives, in thousandths, with its two rows and the fraction; the number that a building gets;
-- a face's force in units and in whole newtons; the number and line that a text gets
pub data Row : Type 0 where
  gives : (year : ℕ) → Building → (direction place : ℕ) → Values → (lower upper part whole : ℕ) → Row
  gets : (year : ℕ) → Building → (number : ℕ) → Row
  pushes : (density speed : ℕ) (net area units newtons : ℤ) → Row
  reads : String → (number line : ℕ) → Row

-- a building of that density and one face with that net coefficient: outside, where the internal coefficient is 0
abbrev pub alone : ℕ → ℕ → ℤ → ℤ → ℤ
alone density speed net area =
    force X
    (record {
      density = pos density;
      outside = λ direction zone. net ∷ [];
      winds = [];
      internals = [];
      profile = [];
      faces = [];
    })
    (record { direction = pos 0; speed = pos speed }) (pos 0)
    (record { zone = 65; mark = both; height = pos 0; x = area; y = pos 0; z = pos 0 }) 1

abbrev pub Holds : Row → Type 0
Holds (gives year g direction place values lower upper part whole) = (outside_of (pos year) g (pos direction) place
    ≡ Ok (record { values = values; lower = lower; upper = upper; part = part; whole = whole }))
Holds (gets year g number) = (given_fault (pos year) g ≡ number)
Holds (pushes density speed net area units whole) =
    (alone density speed net area ≡ units) × (newtons units ≡ whole) × (remainder units ≡ 0)
Holds (reads text number line) = (verdict (reading (bytes text)) ≡ refusal number line)

-- ---- the table

-- h, a, b, the roof's kind and number, at density 1250
abbrev pub shed : ℕ → ℕ → ℕ → ℕ → ℕ → Building
shed h a b kind x =
    record { h = pos h; a = pos a; b = pos b; density = pos 1250; kind = pos kind; x = pos x }

abbrev pub m : ℕ → ℤ
m n = neg_ℤ (pos n)

abbrev pub B : ℕ
B = 66

abbrev pub C : ℕ
C = 67

abbrev pub printed : List Row
printed =
    gives 1 (shed 500 1200 1000 0 0) 0 B (One (m 200)) 1 1 0 1  -- P1
    ∷ gives 1 (shed 501 1200 1000 0 0) 0 B (One (m 250)) 3 3 0 1  -- P2
    ∷ gives 1 (shed 500 1500 1000 0 0) 0 C (One (m 500)) 1 1 0 1  -- P3
    ∷ gives 1 (shed 500 1501 1000 0 0) 0 C (One (m 600)) 2 2 0 1  -- P4
    ∷ gets 1 (shed 500 1000 1000 0 0) 4  -- P5
    ∷ gets 2 (shed 500 1000 1000 0 0) 4
    ∷ gives 3 (shed 500 1000 1000 0 0) 0 B (One (m 200)) 1 1 0 1  -- and from year 3 on
    ∷ gets 1 (shed 500 4000 1000 0 0) 0  -- P6
    ∷ gets 1 (shed 500 4001 1000 0 0) 4
    ∷ gets 1 (shed 6000 1200 1000 0 0) 0  -- P7
    ∷ gets 1 (shed 6001 1200 1000 0 0) 4
    ∷ gives 1 (shed 500 1200 1000 1 123) 0 E (One (m 1016)) 3 4 23 100  -- P8
    ∷ gives 1 (shed 500 1200 1000 1 451) 0 E (One (pos 303)) 6 7 1 150  -- P9
    ∷ gives 1 (shed 500 1200 1000 1 150) 0 E (One (m 800)) 3 4 1 2  -- P10
    ∷ gives 1 (shed 12000 12000 10000 4 603) 0 L1 (One (m 1499)) 5 6 1 200  -- P11
    ∷ pushes 1250 400 (pos 700) (pos 1000) (pos 140_000_000_000_000) (pos 7000)  -- P12
    ∷ reads "" 1 1
    ∷ reads "B 1\n500 1200 1000 1250 0 0\nW 1\n0 400\nI 1\n0\nF 25\n" 2 7
    ∷ []

-- row after row
infixr 40 ◌and◌
pub ◌and◌ : {P Q : Type 0} → P → Q → P × Q
p and q = (p, q)

pub printed-hold : Every Holds printed
unfolding divisor_up_to common_divisor outside_of asked_of given_fault building_fault out_of_form out_of_range
    out_of_walls
    out_of_roof too_long beyond zone_on local_on knows place_on roof_of coefficient_of wall_column gable_column
    single_column
    flat_column roof_column two_signs wall_row block_of roof_way way_in on_straight half_up round_away round_down
    left_over
    reading lines_in lines_from split fields_of field_from numeral unsigned negative digits_in_form all_digits
    value_after
    value read_lines walk line_fault in_form has_form factor_at speed_at
printed-hold =
    refl and refl and refl and refl  -- P1 to P4
    and refl and refl and refl  -- P5 in years 1 to 3
    and refl and refl and refl and refl  -- P6 and P7
    and refl and refl and refl and refl  -- P8 to P11
    and (refl, refl, refl)  -- P12
    and refl and refl and tt
