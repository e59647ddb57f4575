-- The year of a sheet, and what goes by it.
use Rattle.std.specs.Prelude.{Bool, cond, not, ℕ, ℤ, pos}
use Rattle.std.specs.Int.Signed.{lt_z}
use Rattle.building.specs.Test.{is, within}

-- a sheet of year 1 does not say its year; a later one says 2, or a year up to this
abbrev pub last_year : ℕ
last_year = 4

abbrev pub is_year : ℤ → Bool
is_year year = within (pos 1) (pos last_year) year

-- a sheet of any year but the first has a profile, and a height on each face line
abbrev pub has_heights : ℤ → Bool
has_heights year = not (is (pos 1) year)

-- from year 3 on the walls' table has square plans
abbrev pub has_squares : ℤ → Bool
has_squares year = lt_z (pos 2) year

-- from year 4 on there are long sheds, whose totals are shown as newtons with a remainder
abbrev pub has_long_sheds : ℤ → Bool
has_long_sheds year = lt_z (pos 3) year

-- the most faces that a sheet of a year may have
abbrev pub face_limit : ℤ → ℕ
face_limit year = cond (has_long_sheds year) 240 24

-- where the building stands in its sheet: behind the year, where that is said
abbrev pub building_line : ℤ → ℕ
building_line year = cond (has_heights year) 4 2
