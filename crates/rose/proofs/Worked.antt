-- Sectors and Beaufort numbers at their ends, and small files worked out: whole, and in the parts that they come in.
use Prim.Native.Nat.{ℕ, ◌+◌, ◌*◌}
use Prim.Native.String.{String}
use mathlib.Core.Path.{◌≡◌, refl}
use mathlib.Core.List.{List, [], ◌∷◌, map}
use lib.ListN.{get_or}
use Rattle.whole.specs.Digits.{all_digits, value, value_after}
use Rattle.whole.specs.Lists.{joined}
use Rattle.whole.proofs.Quoted.{bytes}
use Rattle.field.specs.Field.{digits_in_form, unsigned, negative, numeral, field_from}
use Rattle.lines.specs.Lines.{split, fields_of, lines_from, lines_in}
use Rattle.rose.specs.declared.Rose.{Rose}
use Rattle.rose.specs.Observation.{sector, top_speeds, exceeded, beaufort}
use Rattle.rose.specs.Rose.{no_lines, lines_judged, rose_of}
use Rattle.rose.specs.Taken.{part_taken, end_taken}
use Rattle.rose.proofs.Taken.{parts_taken}

-- north up to 11 degrees and from 349 on, its neighbours, and south
sectors-right :
    map sector (0 ∷ 11 ∷ 12 ∷ 33 ∷ 34 ∷ 180 ∷ 326 ∷ 327 ∷ 348 ∷ 349 ∷ 359 ∷ [])
    ≡ 0 ∷ 0 ∷ 1 ∷ 1 ∷ 2 ∷ 8 ∷ 14 ∷ 15 ∷ 15 ∷ 0 ∷ 0 ∷ []
sectors-right = refl

-- table 2.2.2.2.1, each number at its least and its greatest speed
beauforts-right :
    (map beaufort (0 ∷ 2 ∷ 3 ∷ 15 ∷ 16 ∷ 33 ∷ 34 ∷ 54 ∷ 55 ∷ 79 ∷ 80 ∷ 107 ∷ 108 ∷ [])
    ≡ 0 ∷ 0 ∷ 1 ∷ 1 ∷ 2 ∷ 2 ∷ 3 ∷ 3 ∷ 4 ∷ 4 ∷ 5 ∷ 5 ∷ 6 ∷ [])
    × (map beaufort (138 ∷ 139 ∷ 171 ∷ 172 ∷ 207 ∷ 208 ∷ 244 ∷ 245 ∷ 284 ∷ 285 ∷ 326 ∷ 327 ∷ 1000 ∷ [])
    ≡ 6 ∷ 7 ∷ 7 ∷ 8 ∷ 8 ∷ 9 ∷ 9 ∷ 10 ∷ 10 ∷ 11 ∷ 11 ∷ 12 ∷ 12 ∷ [])
unfolding beaufort exceeded top_speeds
beauforts-right = (refl, refl)

-- ---- files

-- the parts of a file; the number, the line and the accepted lines; and of one cell the sector, the Beaufort number
-- and how many lines it counts
record Case : Type 0 where
  parts : List String
  number : ℕ
  line : ℕ
  lines : ℕ
  sector : ℕ
  beaufort : ℕ
  count : ℕ

abbrev case : List String → (number line lines sector beaufort count : ℕ) → Case
case parts number line lines s b count =
    record { parts = parts; number = number; line = line; lines = lines; sector = s; beaufort = b; count = count }

abbrev cases : List Case
cases =
    -- an empty file, in no part and in an empty one
    case [] 0 0 0 0 0 0
    ∷ case ("" ∷ []) 0 0 0 0 0 0
    -- a cut inside a number, an empty part, and a cut before LF
    ∷ case ("1" ∷ "" ∷ "2 15" ∷ "\n349 0\n" ∷ []) 0 0 2 1 1 1
    ∷ case ("12 15\n11 15\n12 3\n" ∷ []) 0 0 3 1 1 2
    -- an unfinished line counts for nothing, also where it is a good one
    ∷ case ("0 2\n0 2" ∷ []) 1 2 1 0 0 1
    ∷ case ("0 2\n" ∷ "0" ∷ []) 1 2 1 0 0 1
    -- form: no field, one, three, a space too many, a letter, a sign, zeros, eight digits
    ∷ case ("\n" ∷ []) 1 1 0 0 0 0
    ∷ case ("1\n" ∷ []) 1 1 0 0 0 0
    ∷ case ("0 2\n1 2 3\n0 2\n" ∷ []) 1 2 1 0 0 1
    ∷ case ("1  2\n" ∷ []) 1 1 0 0 0 0
    ∷ case ("1 A\n" ∷ []) 1 1 0 0 0 0
    ∷ case ("- 2\n" ∷ []) 1 1 0 0 0 0
    ∷ case ("1 -0\n" ∷ []) 1 1 0 0 0 0
    ∷ case ("00 2\n" ∷ []) 1 1 0 0 0 0
    ∷ case ("1 12345678\n" ∷ []) 1 1 0 0 0 0
    -- range, and form before range on one line; the rose stays at the line before
    ∷ case ("359 1000\n360 1\n0 2\n" ∷ []) 3 2 1 0 12 1
    ∷ case ("1 1001\n" ∷ []) 3 1 0 0 0 0
    ∷ case ("-1 2\n" ∷ []) 3 1 0 0 0 0
    ∷ case ("9999999 2\n" ∷ []) 3 1 0 0 0 0
    ∷ case ("360 02\n" ∷ []) 1 1 0 0 0 0
    ∷ []

abbrev told : Case → Rose → List ℕ
told c r = r.verdict.number ∷ r.verdict.line ∷ r.accepted ∷ get_or r.cell (13 * c.sector + c.beaufort) 0 ∷ []

abbrev answers : List (List ℕ)
answers = map (λ c. c.number ∷ c.line ∷ c.lines ∷ c.count ∷ []) cases

wholes-right : map (λ c. told c (rose_of (joined (map bytes c.parts)))) cases ≡ answers
unfolding rose_of lines_judged lines_in lines_from fields_of split field_from numeral unsigned negative
    digits_in_form all_digits value value_after beaufort exceeded top_speeds
wholes-right = refl

parts-right : map (λ c. told c (end_taken (parts_taken no_lines (map bytes c.parts)))) cases ≡ answers
unfolding end_taken parts_taken part_taken beaufort exceeded top_speeds
parts-right = refl
