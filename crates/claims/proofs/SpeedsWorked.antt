-- Both premises on faster winds are needed: in each of two worked pairs of sheets one premise holds, only the speed
-- rises, and less is shown.
use mathlib.Core.Path.{◌≡◌, refl, sym, ◌∙◌, subst}
use mathlib.Core.Bool.{true}
use mathlib.Core.List.{List, [], ◌∷◌}
use Prim.Native.Nat.{ℕ}
use Prim.Native.String.{String, ◌++◌ as ◌&◌}
use lib.IntN.{ℤ, pos, neg_ℤ}
use lib.Signed.{◌≤ℤ◌, le_z_yes, lt_z_yes}
use Rattle.whole.specs.Lists.{Every, numbers}
use Rattle.whole.proofs.Quoted.{bytes}
use Rattle.whole.specs.Round.{half_up, round_away, round_down, left_over}
use Rattle.whole.specs.Digits.{all_digits, value_after, value}
use Rattle.whole.specs.Lowest.{divisor_up_to, common_divisor}
use Rattle.field.specs.Field.{digits_in_form, unsigned, negative, numeral, field_from}
use Rattle.lines.specs.Lines.{split, fields_of, lines_from, lines_in}
use Rattle.book.specs.Line.{way_in, on_straight}
use Rattle.book.specs.Walls.{wall_row}
use Rattle.book.specs.Gable.{block_of}
use Rattle.book.specs.Roofs.{roof_way}
use Rattle.book.specs.Question.{wall_column, gable_column, single_column, flat_column, roof_column, two_signs}
use Rattle.book.specs.Question.{coefficient_of, outside_of}
use Rattle.building.specs.Roof.{roof_of}
use Rattle.building.specs.Building.{given_fault, building_fault, out_of_form, out_of_range, out_of_walls, out_of_roof}
use Rattle.building.specs.Places.{zone_on, local_on, knows, place_on}
use Rattle.building.specs.Question.{asked_of}
use Rattle.building.specs.Test.{beyond, too_long}
use Rattle.rules.specs.Form.{has_form, in_form}
use Rattle.rules.specs.Sections.{line_fault}
use Rattle.building.specs.declared.Building.{Building}
use Rattle.entry.specs.declared.Step.{Step}
use Rattle.entry.specs.declared.Face.{Face}
use Rattle.entry.specs.Says.{both}
use Rattle.job.specs.Carried.{Carried}
use Rattle.job.specs.Walk.{Accepted, walk, read_lines}
use Rattle.sheet.specs.Sheet.{reading}
use Rattle.worst.specs.declared.Side.{Side}
use Rattle.worst.specs.declared.Side.TheVariants.{Greatest, Least}
use Rattle.worst.specs.declared.Axis.{Axis}
use Rattle.worst.specs.declared.Axis.TheVariants.{X}
use Rattle.worst.specs.Best.{short, NoFurther, better, best}
use Rattle.worst.specs.Cases.{each, choices, total, cases, case_total, worst}
use Rattle.worst.specs.Speed.{factor_at, speed_at}
use Rattle.worst.specs.Shown.{padded, shown, total_in}
use Rattle.worst.specs.Worst.{extreme}
use Rattle.claims.specs.Shown.{Faster, OneHeight, SomeSpeed}
use Rattle.claims.proofs.Printed.{◌and◌}

-- a pair of accepted sheets of which the second has a faster wind and shows less on its side of zero
pub record ShowsLess (axis : Axis) (side : Side) (sheet sheet' : String) (c d : Carried) : Type 0 where
  pub accepted : reading (bytes sheet) ≡ Accepted c
  pub accepted' : reading (bytes sheet') ≡ Accepted d
  pub faster : Faster c d
  pub beyond-zero : NoFurther side (pos 0) (total_in (extreme axis side c))
  pub less : short side (total_in (extreme axis side d)) (total_in (extreme axis side c)) ≡ true

-- ---- the two jobs, with one wind at a speed

abbrev building : Building
building =
    record { h = pos 500; a = pos 1200; b = pos 1000; density = pos 1250; kind = pos 0; x = pos 0 }

abbrev step : ℕ → ℕ → Step
step height factor = record { height = pos height; factor = pos factor }

abbrev face : ℕ → ℕ → ℤ → Face
face zone height x =
    record { zone = zone; mark = both; height = pos height; x = x; y = pos 0; z = pos 0 }

abbrev job : List Step → List Face → ℕ → Carried
job profile faces speed =
    record {
      year = pos 2;
      building = building;
      winds = record { direction = pos 0; speed = pos speed } ∷ [];
      internals = pos 0 ∷ [];
      profile = profile;
      faces = faces;
    }

abbrev before : String
before = "V 1\n2\nB 1\n500 1200 1000 1250 0 0\nW 1\n0 "

-- faces D and C at one height, whose speeds are 0 under the first wind
abbrev pub low : ℕ → Carried
low = job (step 0 398 ∷ step 10 595 ∷ []) (face 68 0 (neg_ℤ (pos 3)) ∷ face 67 0 (neg_ℤ (pos 3)) ∷ [])

abbrev pub low_sheet : String → String
low_sheet speed = before & speed & "\nI 1\n0\nP 2\n0 398\n10 595\nF 2\nD - 0 -3 0 0\nC - 0 -3 0 0\n"

-- faces D and B at two heights
abbrev pub two : ℕ → Carried
two = job (step 0 774 ∷ step 10 580 ∷ []) (face 68 0 (neg_ℤ (pos 1)) ∷ face 66 9 (pos 2) ∷ [])

abbrev pub two_sheet : String → String
two_sheet speed = before & speed & "\nI 1\n0\nP 2\n0 774\n10 580\nF 2\nD - 0 -1 0 0\nB - 9 2 0 0\n"

-- ---- what is shown on x, computed over every case

pub record Row : Type 0 where
  pub sheet : String
  pub carries : Carried
  pub side : Side
  pub shows : ℤ

abbrev Holds : Row → Type 0
Holds r =
    (reading (bytes r.sheet) ≡ Accepted r.carries) × (total_in (extreme X r.side r.carries) ≡ r.shows)

abbrev rows : List Row
rows =
    record { sheet = low_sheet "1"; carries = low 1; side = Least; shows = pos 0 }
    ∷ record { sheet = low_sheet "6"; carries = low 6; side = Least; shows = pos 15000000 }
    ∷ record { sheet = two_sheet "2"; carries = two 2; side = Greatest; shows = pos 2000000 }
    ∷ record { sheet = two_sheet "3"; carries = two 3; side = Greatest; shows = pos 500000 }
    ∷ []

pub rows-hold : Every Holds rows
unfolding divisor_up_to common_divisor round_down left_over half_up round_away all_digits value_after value
    digits_in_form unsigned
    negative numeral field_from split fields_of
    lines_from lines_in way_in on_straight wall_row block_of out_of_roof roof_of roof_way given_fault
    building_fault out_of_form out_of_range out_of_walls too_long zone_on local_on wall_column gable_column flat_column
    coefficient_of outside_of asked_of beyond has_form in_form line_fault walk read_lines reading better best numbers
    each
    choices total cases case_total worst padded shown factor_at speed_at knows place_on single_column roof_column
    two_signs
rows-hold = (refl, refl) and (refl, refl) and (refl, refl) and (refl, refl) and tt

-- every face's speed is above 0 at speed 2
two-speeds : SomeSpeed (two 2)
unfolding factor_at speed_at half_up
two-speeds = (lt_z_yes tt and lt_z_yes tt and tt) and tt

-- ---- one premise each, and less is shown

-- from one speed to another that is no lower
only-speed : (profile : List Step) (faces : List Face) (v w : ℕ) → pos v ≤ℤ pos w
    → Faster (job profile faces v) (job profile faces w)
only-speed profile faces v w h =
    record { building = refl; profile = refl; faces = refl; internals = refl; winds = (refl, h, tt) }

shows-less : (side : Side) {sheet sheet' : String} {c d : Carried} {u v : ℤ}
    → (reading (bytes sheet) ≡ Accepted c) × (total_in (extreme X side c) ≡ u)
    → (reading (bytes sheet') ≡ Accepted d) × (total_in (extreme X side d) ≡ v)
    → Faster c d → NoFurther side (pos 0) u → short side v u ≡ true → ShowsLess X side sheet sheet' c d
shows-less side r q faster out less =
    record {
      accepted = r.0;
      accepted' = q.0;
      faster = faster;
      beyond-zero = subst (NoFurther side (pos 0)) (sym r.1) out;
      less = (λ j. short side (q.1 j) (r.1 j)) ∙ less;
    }

-- all faces at one height: the least on x is 0 at speed 1 and rises to 15000000 at speed 6
pub speeds-needed : ShowsLess X Least (low_sheet "1") (low_sheet "6") (low 1) (low 6) × OneHeight (low 1)
speeds-needed =
    let r = rows-hold in (
      shows-less Least r.0 r.1.0 (only-speed _ _ 1 6 (le_z_yes tt)) (le_z_yes tt) refl,
      (pos 0, refl and refl and tt),
    )

-- all face speeds above 0: the greatest on x is 2000000 at speed 2 and falls to 500000 at speed 3
pub heights-needed : ShowsLess X Greatest (two_sheet "2") (two_sheet "3") (two 2) (two 3) × SomeSpeed (two 2)
heights-needed =
    let r = rows-hold.1.1 in (
      shows-less Greatest r.0 r.1.0 (only-speed _ _ 2 3 (le_z_yes tt)) (le_z_yes tt) refl,
      two-speeds,
    )
