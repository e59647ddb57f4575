-- What the handout of a report line is: the forces of its case, and the newtons that the faces get of its total.
use Rattle.std.specs.Prelude.{◌≡◌, List, ◌++◌, ℕ, ◌<◌, ℤ, pos, nat_abs, ◌-ℤ◌, ◌*ℤ◌, length, get_or, drop}
use Rattle.worst.specs.Shown.{total_in}
use Rattle.whole.specs.Newton.{newton, newtons}
use Rattle.job.specs.Carried.{Carried}
use Rattle.worst.specs.declared.Side.{Side}
use Rattle.worst.specs.declared.Axis.{Axis}
use Rattle.worst.specs.declared.Extreme.{Extreme}
use Rattle.worst.specs.Cases.{Case}
use Rattle.worst.specs.Forces.{force, wind_at, internal_at}
use Rattle.worst.specs.Worst.{given}
use Rattle.sharing.specs.Column.{added_up}
use Rattle.sharing.specs.Fair.{IsColumn}
use Rattle.column.specs.Column.{at_choice}
use Rattle.claims.specs.Shown.{Shows}

-- each face's own force on an axis in a case
abbrev pub forces_of : Carried → Axis → Case ℕ ℕ ℕ → List ℤ
forces_of c axis case =
    at_choice (force axis (given c) (wind_at (given c) case.wind) (internal_at (given c) case.internal)) c.faces
    case.chosen

-- from what a lent list held to what it holds: the column of the line on this axis and side stands at its start
pub record Handout (c : Carried) (axis : Axis) (side : Side) (old new : List ℤ) : Type 0 where
  -- the line, and the case that it names
  pub line : Extreme
  pub shows : Shows c axis side line
  pub column : List ℤ
  -- "Each face gets its own force rounded down; the newtons still missing go one each to the faces with the largest
  -- remainders, the earlier face first where equal": and no other column is so
  pub shared : IsColumn (forces_of c axis shows.case) column
  pub only : (other : List ℤ) → IsColumn (forces_of c axis shows.case) other → other ≡ column
  -- "the column must add to its total rounded down to whole newtons"
  pub adds : added_up column ≡ newtons (total_in line)
  -- "each entry is less than 1 N from its exact force"
  pub near : (i : ℕ) → i < length c.faces
      → nat_abs (get_or column i (pos 0) *ℤ pos newton -ℤ get_or (forces_of c axis shows.case) i (pos 0)) < newton
  -- "the column goes into a lent list, whose entries past the last face stay as they were"
  pub sized : length column ≡ length c.faces
  pub written : new ≡ column ++ drop (length column) old
