-- The worked sheet of paper 01 and the six lines that `totals` writes for it, from bytes to bytes: the definitions
-- compute them over every case.
use Prim.Native.String.{String, ◌++◌ as ◌&◌}
use mathlib.Core.Path.{◌≡◌, refl}
use Rattle.whole.proofs.Quoted.{bytes}
use Rattle.whole.specs.Round.{half_up, round_away, round_down, left_over}
use Rattle.whole.specs.Digits.{digits_within, digits, decimal, all_digits, value_after, value}
use Rattle.field.specs.Field.{digits_in_form, unsigned, negative, numeral, field_from}
use Rattle.lines.specs.Lines.{split, fields_of, lines_from, lines_in}
use Rattle.whole.specs.Lowest.{divisor_up_to, common_divisor}
use Rattle.book.specs.Line.{way_in, on_straight}
use Rattle.book.specs.Walls.{wall_row}
use Rattle.book.specs.Gable.{block_of}
use Rattle.book.specs.Roofs.{roof_way}
use Rattle.building.specs.Roof.{roof_of}
use Rattle.building.specs.Building.{given_fault, building_fault, out_of_form, out_of_range, out_of_walls, out_of_roof}
use Rattle.building.specs.Places.{zone_on, local_on, knows, place_on}
use Rattle.building.specs.Question.{asked_of}
use Rattle.book.specs.Question.{wall_column, gable_column, single_column, flat_column, roof_column, two_signs}
use Rattle.book.specs.Question.{coefficient_of, outside_of}
use Rattle.building.specs.Test.{beyond, too_long}
use Rattle.rules.specs.Form.{has_form, in_form}
use Rattle.rules.specs.Sections.{line_fault}
use Rattle.job.specs.Walk.{walk, read_lines}
use Rattle.sheet.specs.Sheet.{reading}
use Rattle.worst.specs.Best.{better, best}
use Rattle.worst.specs.Speed.{factor_at, speed_at}
use Rattle.whole.specs.Lists.{numbers}
use Rattle.worst.specs.Cases.{each, choices, total, cases, case_total, worst}
use Rattle.worst.specs.Shown.{padded, shown}
use Rattle.worst.specs.Worst.{six_extremes}
use Rattle.report.specs.Lines.{spaced, total_text, extreme_text, axis_text, six_text}
use Rattle.report.specs.Report.{report_text, totals_text}

abbrev sheet : String
sheet = "B 1\n500 1200 1000 1250 2 0\nW 1\n0 400\nI 2\n20\n-30\nF 3\nA 0 1000 0 0\nB - -1000 0 0\nF 0 0 0 -2000\n"

abbrev lines : String
lines =
    "x max 180000000000000 1 1 1 1 1\n"
    & "x min 180000000000000 1 1 1 1 1\n"
    & "y max 0 1 1 1 1 1\n"
    & "y min 0 1 1 1 1 1\n"
    & "z max 160000000000000 1 1 1 1 2\n"
    & "z min -200000000000000 1 2 1 1 1\n"

pub sample : totals_text (reading (bytes sheet)) ≡ bytes lines
unfolding divisor_up_to common_divisor round_down left_over half_up round_away digits_within digits decimal all_digits
    value_after value
    digits_in_form unsigned negative numeral field_from split fields_of lines_from lines_in way_in on_straight
    wall_row block_of
    out_of_roof roof_of roof_way given_fault building_fault out_of_form out_of_range out_of_walls too_long zone_on
    local_on knows
    place_on wall_column gable_column single_column flat_column roof_column two_signs coefficient_of outside_of
    asked_of beyond
    has_form in_form line_fault walk read_lines reading better best numbers each choices total cases case_total worst
    padded shown six_extremes spaced total_text extreme_text axis_text six_text report_text factor_at speed_at
sample = refl
