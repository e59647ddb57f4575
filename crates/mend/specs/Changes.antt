-- The list of the changes: each byte taken out or added, in the order received.
use Rattle.std.specs.Prelude.{ℕ, ◌+◌, Bool, cond, List, [], ◌∷◌, eqb}
use Rattle.mend.specs.Mended.{Fate, stays, goes, left, fates, lacks_end}

-- the line and the place in it where the byte was received, both from 1; the kind is 1 for a return, 2 for a space,
-- 3 for a plus, 4 for a zero and 5 for an end
pub record Change : Type 0 where
  pub line : ℕ
  pub kind : ℕ
  pub place : ℕ

abbrev pub change : (line kind place : ℕ) → Change
change line kind place = record { line = line; kind = kind; place = place }

-- the line and the place behind a byte
abbrev pub next_line : ℕ → ℕ → ℕ
next_line b line = cond (eqb b 10) (line + 1) line

abbrev pub next_place : ℕ → ℕ → ℕ
next_place b place = cond (eqb b 10) 1 (place + 1)

-- from a line and a place on; an added end stands one past the last byte
unfoldable pub changes_from : (added : Bool) (line place : ℕ) → List Fate → List Change
changes_from added line place [] = cond added (change line 5 place ∷ []) []
changes_from added line place (stays b ∷ fs) = changes_from added (next_line b line) (next_place b place) fs
changes_from added line place (goes kind b ∷ fs) =
    change line kind place ∷ changes_from added (next_line b line) (next_place b place) fs

unfoldable pub changes : List ℕ → List Change
changes s = changes_from (lacks_end (left (fates s))) 1 1 (fates s)

-- three numbers for a change
unfoldable pub as_numbers : List Change → List ℕ
as_numbers [] = []
as_numbers (c ∷ cs) = c.line ∷ c.kind ∷ c.place ∷ as_numbers cs
