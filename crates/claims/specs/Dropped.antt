-- A job without one of its winds, and what becomes of its six extremes.
use Rattle.std.specs.Prelude.{◌≡◌, ℕ, ◌≤◌, length}
use Rattle.whole.specs.Lists.{take_out, renumbered}
use Rattle.job.specs.Carried.{Carried, with_winds}
use Rattle.worst.specs.declared.Side.{Side}
use Rattle.worst.specs.declared.Axis.{Axis}
use Rattle.worst.specs.declared.Extreme.{Extreme}
use Rattle.worst.specs.declared.Six.{Six}
use Rattle.worst.specs.Worst.{shown_in}

-- d is c without its wind k, counted from 1, which is one of two or more
pub record WindTakenOut (k : ℕ) (c d : Carried) : Type 0 where
  pub first : 1 ≤ k
  pub last : k ≤ length c.winds
  pub two : 2 ≤ length c.winds
  pub same : d ≡ with_winds (take_out k c.winds) c

-- none of the six names wind k
abbrev pub Unnamed : ℕ → Six → Type 0
Unnamed k six = (axis : Axis) (side : Side) → (shown_in six axis side).wind ≡ k → ⊥

-- its total and the rest of its named case as they were, but for the number of a wind after k, which goes down by one
abbrev pub renumbered_extreme : ℕ → Extreme → Extreme
renumbered_extreme k e =
    record {
      total = e.total;
      wind = renumbered k e.wind;
      internal = e.internal;
      faces = e.faces;
      alternative = e.alternative;
    }

abbrev pub SameButNumbers : ℕ → Six → Six → Type 0
SameButNumbers k six fewer = (axis : Axis) (side : Side)
    → shown_in fewer axis side ≡ renumbered_extreme k (shown_in six axis side)
