-- Worked sheets: a text, and the number and line that it gets, as paper 01 has them.
use Prim.Native.Nat.{ℕ, zero, suc}
use Prim.Native.String.{String, ◌++◌ as ◌&◌}
use mathlib.Core.Path.{◌≡◌, refl}
use mathlib.Core.List.{List, [], ◌∷◌, map}
use lib.ListN.{length}
use Rattle.whole.proofs.Quoted.{bytes}
use Rattle.whole.specs.Digits.{all_digits, value_after, value}
use Rattle.verdict.specs.Verdict.{refusal}
use Rattle.field.specs.Field.{digits_in_form, unsigned, negative, numeral, field_from}
use Rattle.lines.specs.Lines.{split, fields_of, lines_from, lines_in}
use Rattle.building.specs.Building.{out_of_range, out_of_walls, out_of_roof}
use Rattle.building.specs.Roof.{roof_of}
use Rattle.building.specs.Places.{zone_on, knows}
use Rattle.building.specs.Test.{beyond, too_long}
use Rattle.rules.specs.Form.{has_form, in_form}
use Rattle.rules.specs.Sections.{line_fault}
use Rattle.job.specs.Walk.{walk, verdict, read_lines}
use Rattle.sheet.specs.Sheet.{reading}

-- a text, and the number and line that it gets
record Case : Type 0 where
  text : String
  number : ℕ
  line : ℕ

abbrev case : String → ℕ → ℕ → Case
case text number line = record { text = text; number = number; line = line }

-- paper 01's sheet up to its faces, and its faces; and a small sheet around one line of each kind
abbrev start : String
start = "B 1\n500 1200 1000 1250 2 0\nW 1\n0 400\nI 2\n20\n-30\nF 3\n"

abbrev faces : String
faces = "A 0 1000 0 0\nB - -1000 0 0\nF 0 0 0 -2000\n"

abbrev building : String → String
building line = "B 1\n" & line & "\nW 1\n0 400\nI 1\n0\nF 1\nA 0 1 0 0\n"

abbrev count : String → String
count line = "B 1\n500 1200 1000 1250 2 0\n" & line & "\n0 400\nI 1\n0\nF 1\nA 0 1 0 0\n"

abbrev wind : String → String
wind line = "B 1\n500 1200 1000 1250 2 0\nW 1\n" & line & "\nI 1\n0\nF 1\nA 0 1 0 0\n"

abbrev face : String → String
face line = "B 1\n500 1200 1000 1250 2 0\nW 1\n0 400\nI 1\n0\nF 1\n" & line & "\n"

-- a sheet of year 2: up to its profile, around the lines of its profile, and around one face line
abbrev tall : String → String
tall year = "V 1\n" & year & "\nB 1\n500 1200 1000 1250 2 0\nW 1\n0 400\nI 1\n0\n"

abbrev profile : String → String
profile lines = tall "2" & lines & "F 1\nA 0 600 1 0 0\n"

abbrev high : String → String
high line = tall "2" & "P 2\n100 800\n1200 1000\nF 1\n" & line & "\n"

-- of that year, up to a building with these sides
abbrev plan : String → String → String
plan year sides = "V 1\n" & year & "\nB 1\n500 " & sides & " 1250 2 0\n"

-- the longest sheet
abbrev times : ℕ → String → String
times zero s = ""
times (suc n) s = s & times n s

abbrev longest : String
longest =
    "V 1\n2\nB 1\n30000 30000 10000 1000 4 6000\nW 8\n"
    & times 8 "90 1000\n"
    & "I 4\n"
    & times 4 "-100\n"
    & "P 16\n10000 1000\n10001 1000\n10002 1000\n10003 1000\n10004 1000\n10005 1000\n10006 1000\n10007 1000\n"
    & "10008 1000\n10009 1000\n10010 1000\n10011 1000\n10012 1000\n10013 1000\n10014 1000\n30000 1000\n"
    & "F 24\n"
    & times 24 "A 90 30000 -100000 -100000 -100000\n"

longest-is : length (bytes longest) ≡ 1158
longest-is = refl

abbrev cases : List Case
cases =
    -- accepted: number 0, line 0
    case (start & faces) 0 0
    ∷ case longest 0 0
    -- missing, unended and extra lines
    ∷ case "" 1 1
    ∷ case "\n" 1 1
    ∷ case "B 2" 1 1
    ∷ case "B 2\n" 2 1
    ∷ case start 1 9
    ∷ case (start & "A 0 1000 0 0\nB - -1000 0 0\nF 0 0 0 -2000") 1 11
    ∷ case (start & faces & "\n") 1 12
    ∷ case (start & faces & " ") 1 12
    ∷ case (start & faces & "A 0 0 0 0\n") 1 12
    -- fields not in form
    ∷ case (" " & start & faces) 1 1
    ∷ case "B  1\n" 1 1
    ∷ case "B 1 \n" 1 1
    ∷ case "B 1\r\n" 1 1
    ∷ case "B 01\n" 1 1
    ∷ case "b 1\n" 1 1
    -- a count is a number
    ∷ case "B -1\n" 2 1
    ∷ case (count "W -1") 2 3
    ∷ case (count "W 0") 2 3
    ∷ case (count "W 9") 2 3
    ∷ case (count "W 9999999") 2 3
    ∷ case (count "W 10000000") 1 3
    ∷ case (count "I 1") 1 3
    -- the building: the lowest number of its line
    ∷ case (building "99 1000 1000 1250 2 01") 1 2
    ∷ case (building "10000000 1200 1000 1250 2 0") 1 2
    ∷ case (building "9999999 1200 1000 1250 2 0") 3 2
    ∷ case (building "-500 1200 1000 1250 2 0") 3 2
    ∷ case (building "99 1000 1000 1250 2 1") 3 2
    ∷ case (building "500 1000 1000 1250 2 1") 4 2
    ∷ case (building "500 1200 1000 1250 2 1") 5 2
    ∷ case (building "500 1200 1000 1250 2") 1 2
    -- a direction is a number
    ∷ case (wind "-90 400") 3 4
    ∷ case (wind "45 400") 3 4
    ∷ case (wind "- 400") 1 4
    ∷ case (wind "90 1001") 3 4
    ∷ case (wind "90 0") 3 4
    -- a mark may be a dash
    ∷ case (face "A - 1 0 0") 0 0
    ∷ case (face "A 90 1 0 0") 0 0
    ∷ case (face "A -90 1 0 0") 3 8
    ∷ case (face "A 45 1 0 0") 3 8
    ∷ case (face "A -0 1 0 0") 1 8
    ∷ case (face "A 00 1 0 0") 1 8
    ∷ case (face "A +0 1 0 0") 1 8
    ∷ case (face "A -- 1 0 0") 1 8
    -- a zone letter that is no zone, a zone that is not on the building, and a lower number beside it
    ∷ case (face "I 0 1 0 0") 1 8
    ∷ case (face "G 0 1 0 0") 6 8
    ∷ case (face "G 45 1 0 0") 3 8
    ∷ case (face "G 0 1 0 -100001") 3 8
    ∷ case (face "F 0 1 0 -100000") 0 0
    -- a sheet that opens with the letter V is of a later year
    ∷ case "V\n" 1 1
    ∷ case "VX 1\n" 1 1
    ∷ case "V 2\n" 2 1
    ∷ case "V 1\n" 1 2
    ∷ case (tall "1") 3 2
    ∷ case (tall "0") 3 2
    ∷ case (tall "5") 3 2
    ∷ case (tall "2 2") 1 2
    -- a square plan has a row from year 3 on: the sheet ends behind it, where W is called for
    ∷ case (plan "2" "1000 1000") 4 4
    ∷ case (plan "3" "1000 1000") 1 5
    ∷ case (plan "3" "999 1000") 4 4
    ∷ case (plan "2" "1001 1000") 1 5
    -- and at most 24 faces up to year 3, and 240 in year 4
    ∷ case (tall "2" & "P 1\n600 500\nF 25\n") 2 11
    ∷ case (tall "3" & "P 1\n600 500\nF 25\n") 2 11
    ∷ case (tall "3" & "P 1\n600 500\nF 24\n") 1 12
    ∷ case (tall "4" & "P 1\n600 500\nF 25\n") 1 12
    ∷ case (tall "4" & "P 1\n600 500\nF 240\n") 1 12
    ∷ case (tall "4" & "P 1\n600 500\nF 241\n") 2 11
    -- it has a profile, whose heights rise
    ∷ case (tall "2" & "F 1\nA 0 600 1 0 0\n") 1 9
    ∷ case (profile "P 0\n") 2 9
    ∷ case (profile "P 17\n") 2 9
    ∷ case (profile "P 1\n600 500\n") 0 0
    ∷ case (profile "P 1\n600 0\n") 3 10
    ∷ case (profile "P 1\n600 1001\n") 3 10
    ∷ case (profile "P 1\n30001 500\n") 3 10
    ∷ case (profile "P 1\n-1 500\n") 3 10
    ∷ case (profile "P 2\n0 500\n600 500\n") 0 0
    ∷ case (profile "P 2\n600 500\n600 500\n") 3 11
    ∷ case (profile "P 2\n600 500\n599 500\n") 3 11
    -- and a height on each face line, within the profile: 1, then 3, then 6, then 8
    ∷ case (high "A 0 100 1 0 0") 0 0
    ∷ case (high "A 0 1200 1 0 0") 0 0
    ∷ case (high "A 0 1 0 0") 1 13
    ∷ case (high "A 0 99 1 0 0") 8 13
    ∷ case (high "A 0 1201 1 0 0") 8 13
    ∷ case (high "G 0 1201 1 0 0") 6 13
    ∷ case (high "G 0 30001 1 0 0") 3 13
    ∷ case (high "A 0 -1 1 0 0") 3 13
    ∷ case (high "I 0 30001 1 0 0") 1 13
    ∷ []

cases-right : map (λ c. verdict (reading (bytes c.text))) cases ≡ map
    (λ c. refusal c.number c.line) cases
unfolding reading lines_in lines_from split fields_of field_from numeral unsigned negative digits_in_form
    all_digits value_after value read_lines walk line_fault in_form has_form out_of_range out_of_walls out_of_roof
    roof_of too_long
    beyond zone_on knows
cases-right = refl
