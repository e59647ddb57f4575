-- Four zones at once: the first and the last of each one's outside coefficients.
use Rattle.std.specs.Prelude.{Bool, cond, not, List, ℕ, ◌+◌, ◌-◌, eqb, ℤ, pos, nat_abs, length, get_or}
use Rattle.building.specs.declared.Building.{Building}
use Rattle.building.specs.declared.Sizes.{Sizes}
use Rattle.building.specs.Test.{one_of}
use Rattle.building.specs.Places.{A, E, F, wall_directions, knows}
use Rattle.book.specs.declared.Ends.{Ends}
use Rattle.book.specs.declared.Four.{Four}
use Rattle.book.specs.Answer.{values_in, values_of}
use Rattle.book.specs.Question.{two_signs, coefficient_of, outside_of}

-- one is both where there is one, and zeros stand where there is none
abbrev pub ends_of : List ℤ → Ends
ends_of values = record { first = get_or values 0 (pos 0); last = get_or values (length values - 1) (pos 0) }

-- what the question about a zone answers, and none where it is refused
abbrev pub ends_at : ℤ → Building → ℤ → ℕ → Ends
ends_at year g direction zone = ends_of (values_of (outside_of year g direction zone))

-- those of a zone, and of the three after it
abbrev pub four_from : ℤ → Building → ℤ → ℕ → Four
four_from year g direction zone =
    record {
      first = ends_at year g direction zone;
      second = ends_at year g direction (zone + 1);
      third = ends_at year g direction (zone + 2);
      fourth = ends_at year g direction (zone + 3);
    }

-- A to D; and E to H
abbrev pub wall_four : ℤ → Building → ℤ → Four
wall_four year g direction = four_from year g direction A

abbrev pub roof_four : ℤ → Building → ℤ → Four
roof_four year g direction = four_from year g direction E

-- ---- the building being in order: only contracts of private functions cite what follows

abbrev pub both_ends : ℤ → Ends
both_ends v = record { first = v; last = v }

abbrev pub no_ends : Ends
no_ends = both_ends (pos 0)

abbrev pub no_four : Four
no_four = record { first = no_ends; second = no_ends; third = no_ends; fourth = no_ends }

abbrev pub ends_on : Sizes → ℕ → ℕ → Ends
ends_on s wind zone = ends_of (values_in (coefficient_of s wind zone).values)

abbrev pub four_on : Sizes → ℕ → ℕ → Four
four_on s wind zone =
    record {
      first = ends_on s wind zone;
      second = ends_on s wind (zone + 1);
      third = ends_on s wind (zone + 2);
      fourth = ends_on s wind (zone + 3);
    }

abbrev pub walls_on : Sizes → ℕ → Four
walls_on s wind = four_on s wind A

abbrev pub wall_half : Sizes → ℤ → Four
wall_half s direction = cond (one_of wall_directions direction) (walls_on s (nat_abs direction)) no_four

-- a flat roof has E and F alone
abbrev pub two_on : Sizes → ℕ → Four
two_on s wind =
    record { first = ends_on s wind E; second = ends_on s wind F; third = no_ends; fourth = no_ends }

-- a gable's or a single slope's two columns hold E,G and F,H, and not E,F and G,H
abbrev pub by_flanks : ℕ → ℕ → Bool
by_flanks kind wind = cond (eqb kind 1) (not (eqb wind 0)) (eqb wind 90)

abbrev pub roof_on : Sizes → ℕ → Four
roof_on s wind = cond (two_signs s.kind F) (two_on s wind) (four_on s wind E)

abbrev pub roof_half : Sizes → ℤ → ℤ → Four
roof_half s kind direction =
    cond (eqb s.kind 0) no_four (cond (knows kind direction) (roof_on s (nat_abs direction)) no_four)
