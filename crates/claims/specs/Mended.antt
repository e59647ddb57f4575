-- What a host has after a call of `aral_mend` that is not refused: the mended text at the start of one buffer, and the
-- list at the start of the other.
use Rattle.std.specs.Prelude.{List, [], ◌∷◌, ℕ, ◌*◌, take}
use Rattle.mend.specs.declared.Mending.{Mending}
use Rattle.mend.specs.Changes.{Change, change}

abbrev pub text_in : Mending → List ℕ → List ℕ
text_in r out = take r.length out

-- three numbers for a change: line, kind and place
unfoldable pub changes_in : List ℕ → List Change
changes_in [] = []
changes_in (line ∷ []) = []
changes_in (line ∷ kind ∷ []) = []
changes_in (line ∷ kind ∷ place ∷ ns) = change line kind place ∷ changes_in ns

abbrev pub list_in : Mending → List ℕ → List Change
list_in r list = changes_in (take (3 * r.changes) list)
