-- Every choice of alternatives by its number, from 1, in their order: the first face's alternative changes last. Only
-- contracts of private functions cite it.
use Rattle.std.specs.Prelude.{Bool, cond, List, [], ◌∷◌, ℕ, ◌+◌, ◌-◌, ◌/◌, ◌^◌, eqb, leb}
use Rattle.worst.specs.declared.FaceForces.{FaceForces}
use Rattle.plain.specs.declared.choices.Turn.{Turn}
use Rattle.plain.specs.Plain.{most_with_two}

abbrev pub has_two : FaceForces → Bool
has_two f = eqb f.count 2

-- so many choices at most are walked
abbrev pub most_ways : ℕ
most_ways = 2 ^ most_with_two

-- how many there are
unfoldable pub ways : List FaceForces → ℕ
ways [] = 1
ways (f ∷ fs) = cond (has_two f) (ways fs + ways fs) (ways fs)

-- the choice of number n: of a face with two alternatives the first half of all choices has the first
unfoldable pub choice_of : List FaceForces → ℕ → List ℕ
choice_of [] n = []
choice_of (f ∷ fs) n =
    cond (has_two f) (cond (leb n (ways fs)) (1 ∷ choice_of fs n) (2 ∷ choice_of fs (n - ways fs))) (1 ∷ choice_of fs n)

-- a face at a time: its alternative, and the number of the choice among those of the faces after it
abbrev pub turn_with : ℕ → ℕ → ℕ → Turn
turn_with k left n = record { alternative = k; left = left; number = n }

unfoldable pub turn_of : ℕ → ℕ → ℕ → Turn
turn_of count left n =
    cond (eqb count 2) (cond (leb n (left / 2)) (turn_with 1 (left / 2) n) (turn_with 2 (left / 2) (n - left / 2)))
    (turn_with 1 left n)
