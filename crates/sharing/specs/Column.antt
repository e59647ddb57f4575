-- Whole newtons for each face that add up to the total rounded down. Each face gets its own force rounded down; the
-- newtons still missing go one each to the faces with the largest remainders, the earlier face first where equal.
-- A face is named by its place in the list of forces, from 0.
use Rattle.std.specs.Prelude.{Bool, cond, List, [], ◌∷◌, map, ℕ, eqb, leb, ltb, ℤ, pos, ◌+ℤ◌, ◌-ℤ◌, length, get_or}
use Rattle.std.specs.Int.Signed.{lt_z}
use Rattle.whole.specs.Lists.{numbers, how_many}
use Rattle.whole.specs.Newton.{newtons, remainder}
use Rattle.verdict.specs.declared.Verdict.{Verdict}
use Rattle.verdict.specs.Verdict.{accepted, refusal}

abbrev pub own_force : List ℤ → ℕ → ℤ
own_force fs i = get_or fs i (pos 0)

-- the sum of a list
unfoldable pub added_up : List ℤ → ℤ
added_up [] = pos 0
added_up (f ∷ fs) = f +ℤ added_up fs

-- the newtons still missing once each force is rounded down
unfoldable pub missing : List ℤ → ℤ
missing fs = newtons (added_up fs) -ℤ added_up (map newtons fs)

-- a face j with remainder s is ahead of a face i with remainder r: the earlier one where the two are equal, and else
-- the one with the larger
abbrev pub comes_first : ℕ → ℕ → ℕ → ℕ → Bool
comes_first s j r i = cond (eqb s r) (ltb j i) (ltb r s)

abbrev pub is_ahead : List ℤ → ℕ → ℕ → Bool
is_ahead fs j i = comes_first (remainder (own_force fs j)) j (remainder (own_force fs i)) i

-- how many faces are ahead of face i
unfoldable pub ahead : List ℤ → ℕ → ℕ
ahead fs i = how_many (λ j. is_ahead fs j i) (numbers (length fs) 0)

-- face i gets one of the missing newtons if fewer faces than that are ahead of it
unfoldable pub share_of : List ℤ → ℕ → ℤ
share_of fs i =
    cond (lt_z (pos (ahead fs i)) (missing fs)) (newtons (own_force fs i) +ℤ pos 1) (newtons (own_force fs i))

unfoldable pub column : List ℤ → List ℤ
column fs = map (share_of fs) (numbers (length fs) 0)

-- a lent list is refused with 7, line 0, exactly if it is shorter than the forces
abbrev pub sharing : List ℤ → List ℤ → Verdict
sharing fs lent = cond (leb (length fs) (length lent)) accepted (refusal 7 0)
