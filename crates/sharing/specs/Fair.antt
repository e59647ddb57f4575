-- What the paper asks of a column, said of any list of newtons: an entry for each face, its force rounded down or one
-- more; all of them adding up to the total rounded down; and no face with one more while a face ahead of it has none.
use Rattle.std.specs.Prelude.{◌≡◌, true, ◌⊎◌, List, ℕ, ◌<◌, ℤ, pos, ◌+ℤ◌, length, get_or}
use Rattle.whole.specs.Newton.{newtons}
use Rattle.sharing.specs.Column.{own_force, added_up, is_ahead}

-- face i's entry is its force rounded down; or one more
abbrev pub Down : List ℤ → List ℤ → ℕ → Type 0
Down fs col i = get_or col i (pos 0) ≡ newtons (own_force fs i)

abbrev pub OneMore : List ℤ → List ℤ → ℕ → Type 0
OneMore fs col i = get_or col i (pos 0) ≡ newtons (own_force fs i) +ℤ pos 1

pub record IsColumn (fs col : List ℤ) : Type 0 where
  pub sized : length col ≡ length fs
  pub each : (i : ℕ) → i < length fs → Down fs col i ⊎ OneMore fs col i
  pub adds : added_up col ≡ newtons (added_up fs)
  pub fair : (j i : ℕ) → j < length fs → i < length fs → is_ahead fs j i ≡ true → OneMore fs col i → OneMore fs col j
