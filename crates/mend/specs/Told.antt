-- What a list of changes tells of the text received: where each change stands in it, that they stand in order, and
-- which bytes it names.
use Rattle.std.specs.Prelude.{ℕ, ◌<◌, ◌≡◌, ◌⊎◌, Bool, false, cond, ◌&&◌, ◌||◌, List, [], ◌∷◌, ◌++◌, eqb}
use Rattle.whole.specs.Lists.{Every}
use Rattle.mend.specs.Changes.{Change, next_line, next_place}

-- ---- where a change stands

-- the line and the place behind a text
unfoldable pub line_after : List ℕ → ℕ → ℕ
line_after [] line = line
line_after (b ∷ s) line = line_after s (next_line b line)

unfoldable pub place_after : List ℕ → ℕ → ℕ
place_after [] place = place
place_after (b ∷ s) place = place_after s (next_place b place)

-- what stands there: the byte of its kind, and for an end no byte
pub data StandsHere : ℕ → List ℕ → Type 0 where
  return : (behind : List ℕ) → StandsHere 1 (13 ∷ behind)
  space : (behind : List ℕ) → StandsHere 2 (32 ∷ behind)
  plus : (behind : List ℕ) → StandsHere 3 (43 ∷ behind)
  zero : (behind : List ℕ) → StandsHere 4 (48 ∷ behind)
  end : StandsHere 5 []

-- the change stands so in the text s
pub record Tells (s : List ℕ) (c : Change) : Type 0 where
  pub before : List ℕ
  pub from : List ℕ
  pub text : s ≡ before ++ from
  pub line : c.line ≡ line_after before 1
  pub place : c.place ≡ place_after before 1
  pub stands : StandsHere c.kind from

-- ---- in order

-- on an earlier line, or on the same and at an earlier place
abbrev pub Precedes : Change → Change → Type 0
Precedes c d = (c.line < d.line) ⊎ ((c.line ≡ d.line) × (c.place < d.place))

-- each change before all that follow it
unfoldable pub PlacesRise : List Change → Type 0
PlacesRise [] = Unit
PlacesRise (c ∷ cs) = Every (Precedes c) cs × PlacesRise cs

-- ---- the bytes that a list names

abbrev pub stands_at : Change → (line place : ℕ) → Bool
stands_at c line place = eqb c.line line && eqb c.place place

unfoldable pub names : List Change → (line place : ℕ) → Bool
names [] line place = false
names (c ∷ cs) line place = stands_at c line place || names cs line place

-- a text, from a line and a place on, without the bytes that the list names
unfoldable pub unnamed : List Change → (line place : ℕ) → List ℕ → List ℕ
unnamed cs line place [] = []
unnamed cs line place (b ∷ s) =
    let rest = unnamed cs (next_line b line) (next_place b place) s in
    cond (names cs line place) rest (b ∷ rest)
