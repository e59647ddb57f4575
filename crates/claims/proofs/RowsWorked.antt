-- Rows and fractions worked out by hand from the printed tables, where items 2 and 3 of paper 02 could be read in two
-- ways.
use mathlib.Core.Path.{refl}
use mathlib.Core.List.{List, [], ◌∷◌}
use lib.IntN.{pos}
use Rattle.whole.specs.Lists.{Every}
use Rattle.whole.specs.Round.{half_up, round_away}
use Rattle.whole.specs.Lowest.{divisor_up_to, common_divisor}
use Rattle.building.specs.Test.{beyond, too_long}
use Rattle.building.specs.Roof.{roof_of}
use Rattle.building.specs.Building.{given_fault, building_fault, out_of_form, out_of_range, out_of_walls, out_of_roof}
use Rattle.building.specs.Places.{E, F, G, H, L1, zone_on, local_on, knows, place_on}
use Rattle.building.specs.Question.{asked_of}
use Rattle.book.specs.declared.Values.TheVariants.{One, Two}
use Rattle.book.specs.Line.{way_in, on_straight}
use Rattle.book.specs.Walls.{wall_row}
use Rattle.book.specs.Gable.{block_of}
use Rattle.book.specs.Roofs.{roof_way}
use Rattle.book.specs.Question.{outside_of, coefficient_of, wall_column, gable_column, single_column, flat_column}
use Rattle.book.specs.Question.{roof_column, two_signs}
use Rattle.claims.proofs.Printed.{Row, gives, Holds, shed, m, ◌and◌}

abbrev pub worked : List Row
worked =
    gives 1 (shed 500 1200 1000 1 0) 0 E (One (m 800)) 1 1 0 1  -- on the first row of a part
    ∷ gives 1 (shed 500 1200 1000 1 450) 0 E (One (pos 300)) 6 6 0 1  -- on a row between others
    ∷ gives 1 (shed 500 1200 1000 1 600) 0 E (One (pos 700)) 7 7 0 1  -- on the last
    ∷ gives 1 (shed 1000 1200 1000 1 450) 0 E (One (pos 200)) 13 13 0 1  -- the next block counts on
    ∷ gives 1 (shed 2000 1200 1000 1 450) 0 E (One (pos 0)) 20 21 1 2  -- from -0.20 to 0.20, and no row at 45
    ∷ gives 1 (shed 500 1200 1000 1 30) 90 F (One (m 400)) 1 2 3 5  -- rows with equal numbers are two rows
    ∷ gives 1 (shed 500 1200 1000 2 0) 0 F (Two (pos 200) (m 200)) 1 1 0 1  -- straight eaves, both signs
    ∷ gives 1 (shed 1000 1200 1000 3 75) 0 L1 (One (m 1900)) 3 4 1 2  -- 0.075 between 0.050 and 0.100
    ∷ gives 1 (shed 500 1200 1000 5 600) 0 E (One (m 500)) 10 10 0 1
    ∷ gives 1 (shed 500 1200 1000 5 700) 0 E (One (m 567)) 10 1 1 3  -- from 60 degrees to straight eaves: -0.5666..
    ∷ gives 1 (shed 500 1200 1000 5 900) 0 E (One (m 700)) 1 1 0 1  -- straight eaves
    ∷ gives 1 (shed 500 1200 1000 6 50) 45 G (One (m 900)) 1 1 0 1  -- from 5 degrees
    ∷ gives 1 (shed 500 1200 1000 6 99) 45 G (One (m 900)) 1 1 0 1  -- to 10 degrees one row
    ∷ gives 1 (shed 500 1200 1000 6 125) 135 E (One (m 750)) 1 2 1 2  -- from -0.90 at 10 to -0.60 at 15
    ∷ gives 1 (shed 500 1200 1000 6 275) 90 H (One (m 500)) 4 5 1 2
    ∷ gives 1 (shed 500 1200 1000 6 300) 180 F (One (pos 0)) 5 5 0 1
    ∷ []

pub worked-hold : Every Holds worked
unfolding outside_of asked_of given_fault building_fault out_of_form out_of_range out_of_walls out_of_roof too_long
    beyond zone_on
    local_on knows place_on roof_of coefficient_of wall_column gable_column single_column flat_column roof_column
    two_signs
    wall_row block_of roof_way way_in divisor_up_to common_divisor on_straight half_up round_away
worked-hold =
    refl and refl and refl and refl and refl and refl and refl and refl and refl and refl and refl
    and refl and refl and refl and refl and refl and tt
