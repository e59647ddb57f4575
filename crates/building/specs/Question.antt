-- A question about one zone or local in a year, judged: the year; the building, with the line that it has in a sheet
-- of that year; then the direction; then the zone or local.
use Rattle.std.specs.Prelude.{ℕ, zero, suc, ℤ, Result, Ok, Err}
use Rattle.verdict.specs.declared.Verdict.{Verdict}
use Rattle.verdict.specs.Verdict.{refusal}
use Rattle.building.specs.declared.Building.{Building}
use Rattle.building.specs.declared.Sizes.{Sizes}
use Rattle.building.specs.Test.{unless}
use Rattle.building.specs.Year.{is_year, building_line}
use Rattle.building.specs.Building.{given_fault, sizes}
use Rattle.building.specs.Places.{knows, place_on}

-- a question in order is one about these sizes; or its refusal
abbrev pub Question : Type 0
Question = Result Sizes Verdict

-- a number other than 0 refuses, at that line
abbrev pub refuse : ℕ → ℕ → Question → Question
refuse zero line asked = asked
refuse (suc n) line asked = Err (refusal (suc n) line)

-- the year and the building alone
unfoldable pub sized_of : ℤ → Building → Question
sized_of year g =
    refuse (unless 3 (is_year year)) 0
    (refuse (given_fault year g) (building_line year)
    (Ok (sizes g)))

-- then the direction, and the zone or local, on a roof of this kind
abbrev pub placed_of : Sizes → ℤ → ℤ → ℕ → Question
placed_of s kind direction place =
    refuse (unless 3 (knows kind direction)) 0
    (refuse (unless 6 (place_on kind direction place)) 0
    (Ok s))

unfoldable pub asked_of : ℤ → Building → ℤ → ℕ → Question
asked_of year g direction place =
    refuse (unless 3 (is_year year)) 0
    (refuse (given_fault year g) (building_line year)
    (placed_of (sizes g) g.kind direction place))
