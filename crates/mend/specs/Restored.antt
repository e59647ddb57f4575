-- How mending is undone: by the mended text and the list alone, change by change.
use Rattle.std.specs.Prelude.{ℕ, cond, List, [], ◌∷◌, eqb, drop}
use Rattle.mend.specs.Changes.{Change, next_line, next_place}
use Rattle.mend.specs.Told.{stands_at}

-- the byte that a kind takes out
abbrev pub byte_of : ℕ → ℕ
byte_of kind = cond (eqb kind 1) 13 (cond (eqb kind 2) 32 (cond (eqb kind 3) 43 48))

-- at the place of a change: an added end is taken out, and any other byte put back
abbrev pub put_back : Change → List ℕ → List ℕ
put_back c s = cond (eqb c.kind 5) (drop 1 s) (byte_of c.kind ∷ s)

-- a change undone in a text, from a line and a place on
unfoldable pub undone : Change → (line place : ℕ) → List ℕ → List ℕ
undone c line place [] = cond (stands_at c line place) (put_back c []) []
undone c line place (b ∷ s) =
    cond (stands_at c line place) (put_back c (b ∷ s)) (b ∷ undone c (next_line b line) (next_place b place) s)

-- all of them, in the order of the list
unfoldable pub restored : List ℕ → List Change → List ℕ
restored text [] = text
restored text (c ∷ cs) = restored (undone c 1 1 text) cs
