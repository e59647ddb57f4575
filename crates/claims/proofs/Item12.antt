-- Item 12 of paper 02, no half on a gable: over the whole of table 3.2.2.2.2, for the reason that the request gives.
use mathlib.Core.Path.{refl}
use Prim.Native.Nat.{ℕ, ◌-◌, ◌≤◌}
use Rattle.whole.specs.Lists.{Every}
use Rattle.whole.specs.Lowest.{divisor_up_to, common_divisor}
use Rattle.whole.specs.Round.{half_up, round_away, left_over, Half}
use Rattle.building.specs.Building.{given_fault, building_fault, out_of_form, out_of_range, out_of_walls, out_of_roof}
use Rattle.building.specs.Places.{E, zone_on, local_on, knows, place_on}
use Rattle.building.specs.Question.{asked_of}
use Rattle.building.specs.Roof.{roof_of}
use Rattle.building.specs.Test.{beyond, too_long}
use Rattle.book.specs.declared.Values.TheVariants.{One}
use Rattle.book.specs.Row.{hundredths, Standing}
use Rattle.book.specs.Line.{Way, way_in, along_line, on_straight}
use Rattle.book.specs.Interpolated.{Neighbours, LiesBetween, LiesAt}
use Rattle.book.specs.NoHalf.{NoHalf, NoHalfOn, InTens, DegreesApart}
use Rattle.book.specs.Gable.{gable_parts}
use Rattle.book.specs.Roofs.{roof_way}
use Rattle.book.specs.Question.{outside_of, coefficient_of, flat_column, roof_column, two_signs}
use Rattle.book.proofs.Slopes.{gable-in-tens, gable-apart, gable-distances, gable-slopes}
use Rattle.claims.proofs.Printed.{gives, Holds, shed, m}

-- ---- the statements

-- "Every value in table 3.2.2.2.2 is a multiple of ten hundredths"
abbrev pub GableInTens : Type 0
GableInTens = Every (λ block. Every (λ r. InTens r.row) block) gable_parts

-- "and its slopes are 5, 10 or 15 degrees apart,"
abbrev pub SlopesApart : Type 0
SlopesApart = Every (λ block. (lower upper : Standing) → Neighbours block lower upper → DegreesApart lower upper)
    gable_parts

-- "so at tenths of a degree a half should never come up. Show it over the whole table": in every block and column, at
-- every slope between two rows, twice the remainder is not the distance between the rows;
abbrev pub NoHalfBetweenRows : Type 0
NoHalfBetweenRows = Every
    (λ block. (x : ℕ) (lower upper : Standing) → LiesBetween block x 1 lower upper → (col : ℕ)
    → NoHalf (hundredths lower.row col) (hundredths upper.row col) (x - lower.at) (upper.at - lower.at))
    gable_parts

-- and every slope from 0 to 60 degrees lies on a row or between two, where no half comes up with the fraction that an
-- answer cites either.
abbrev pub NoHalfOnAGable : Type 0
NoHalfOnAGable = Every (λ block. (x : ℕ) → x ≤ 600 → (w : Way) × LiesAt block x 1 w × NoHalfOn w) gable_parts

-- "Flat roofs keep theirs": curved eaves of h 4000, x 201 lie 1/200 of the way from -0.40 to -0.30, at -0.3995, halfway
-- between two thousandths; E is -0.400 there.
abbrev pub HalfOnAFlatRoof : Type 0
HalfOnAFlatRoof =
    Half (along_line (m 40) (m 30) 1 200) 200 × Holds (gives 1 (shed 4000 1200 1000 4 201) 0 E (One (m 400)) 5 6 1 200)

-- ---- the proofs

pub in-tens : GableInTens
in-tens = gable-in-tens

pub slopes-apart : SlopesApart
slopes-apart = gable-apart

pub no-half-between-rows : NoHalfBetweenRows
no-half-between-rows = gable-distances

pub no-half-on-a-gable : NoHalfOnAGable
no-half-on-a-gable = gable-slopes

pub half-on-a-flat-roof : HalfOnAFlatRoof
unfolding divisor_up_to common_divisor outside_of asked_of given_fault building_fault out_of_form out_of_range
    out_of_walls
    out_of_roof too_long beyond zone_on local_on knows place_on roof_of coefficient_of flat_column roof_column
    two_signs roof_way
    way_in on_straight half_up round_away left_over
half-on-a-flat-roof = (refl, refl)
