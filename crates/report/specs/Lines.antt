-- The six lines: x, y and z, each with its greatest and its least total, as its year shows it. After the total come
-- wind, internal and each face's alternative.
use Rattle.std.specs.Prelude.{ℕ, List, [], ◌∷◌, ◌++◌, cond, ℤ, take}
use Rattle.whole.specs.Digits.{digits, decimal}
use Rattle.building.specs.Year.{has_long_sheds}
use Rattle.pair.specs.declared.Pair.{Pair}
use Rattle.pair.specs.Total.{units}
use Rattle.worst.specs.declared.Extreme.{Extreme}
use Rattle.worst.specs.declared.Extremes.{Extremes}
use Rattle.worst.specs.declared.Six.{Six}

-- the bytes of the axes' letters, and of the words
abbrev pub x : ℕ
x = 120

abbrev pub y : ℕ
y = 121

abbrev pub z : ℕ
z = 122

-- " max " and " min "
abbrev pub max : List ℕ
max = 32 ∷ 109 ∷ 97 ∷ 120 ∷ 32 ∷ []

abbrev pub min : List ℕ
min = 32 ∷ 109 ∷ 105 ∷ 110 ∷ 32 ∷ []

-- each number after a space
unfoldable pub spaced : List ℕ → List ℕ
spaced [] = []
spaced (n ∷ ns) = 32 ∷ digits n ++ spaced ns

-- the numbers of a case: its wind, its internal coefficient, and the alternative of each face
abbrev pub case_numbers : Extreme → List ℕ
case_numbers e = e.wind ∷ e.internal ∷ take e.faces e.alternative

-- a total: its units, and from year 4 on its newtons and the remainder, separated by a space
unfoldable pub total_text : ℤ → Pair → List ℕ
total_text year p =
    cond (has_long_sheds year) (decimal p.newtons ++ (32 ∷ digits p.remainder)) (decimal (units p))

unfoldable pub extreme_text : ℤ → ℕ → List ℕ → Extreme → List ℕ
extreme_text year axis word e =
    (axis ∷ word) ++ (total_text year e.total ++ (spaced (case_numbers e) ++ (10 ∷ [])))

unfoldable pub axis_text : ℤ → ℕ → Extremes → List ℕ
axis_text year axis e = extreme_text year axis max e.greatest ++ extreme_text year axis min e.least

unfoldable pub six_text : ℤ → Six → List ℕ
six_text year s = axis_text year x s.x ++ (axis_text year y s.y ++ axis_text year z s.z)
