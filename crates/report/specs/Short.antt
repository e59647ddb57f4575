-- What a line can be printed with. Only contracts of private functions cite it.
use Rattle.std.specs.Prelude.{◌≡◌, true, List, [], ◌∷◌, ◌++◌, ℕ, ◌≤◌, ◌<◌, ℤ, length, get_or}
use Rattle.pair.specs.declared.Pair.{Pair}
use Rattle.pair.specs.Total.{within_newtons}
use Rattle.worst.specs.declared.Extreme.{Extreme}
use Rattle.worst.specs.declared.Extremes.{Extremes}
use Rattle.worst.specs.declared.Six.{Six}
use Rattle.worst.specs.declared.Reckoning.{Reckoning}
use Rattle.worst.specs.Within.{most_newtons}
use Rattle.report.specs.Lines.{spaced, case_numbers, total_text}

-- a total that a job of the year can have
abbrev pub Fair : ℤ → Pair → Type 0
Fair year p = within_newtons (most_newtons year) p ≡ true

-- each number is a digit
abbrev pub Digits : List ℕ → Type 0
Digits ns = (i : ℕ) → get_or ns i 0 < 10

-- an extreme of a job with n faces at most: numbers for its case, each a digit
pub record Printable (year : ℤ) (n : ℕ) (e : Extreme) : Type 0 where
  pub few : e.faces ≤ n
  pub counted : e.faces ≤ length e.alternative
  pub digits : Digits (case_numbers e)
  pub total : Fair year e.total

-- what a line has after its axis and word
abbrev pub after_word : ℤ → Extreme → List ℕ
after_word year e = total_text year e.total ++ (spaced (case_numbers e) ++ (10 ∷ []))

-- both of an axis, and all six
abbrev pub Both : (Extreme → Type 0) → Extremes → Type 0
Both P e = P e.greatest × P e.least

abbrev pub AllSix : (Extreme → Type 0) → Six → Type 0
AllSix P six = Both P six.x × Both P six.y × Both P six.z

-- how many faces the job has, by its first line
abbrev pub faces_shown : Six → ℕ
faces_shown six = six.x.greatest.faces

pub record SixPrintable (w : Reckoning) : Type 0 where
  pub few : faces_shown w.six ≤ 240
  pub all : AllSix (Printable w.year (faces_shown w.six)) w.six
