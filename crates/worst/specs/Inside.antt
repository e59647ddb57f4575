-- The internal coefficients at which the cells of a wind are furthest out. Only contracts of private functions cite it.
use Rattle.std.specs.Prelude.{◌≡◌, cond, ℕ, ◌≤◌, ℤ, pos, nat_abs, ◌-ℤ◌, ◌*ℤ◌}
use Rattle.std.specs.Int.Signed.{lt_z}
use Rattle.whole.specs.Lists.{numbers}
use Rattle.job.specs.declared.Internals.{Internals}
use Rattle.worst.specs.declared.Side.{Side}
use Rattle.worst.specs.declared.Side.TheVariants.{Greatest, Least}
use Rattle.worst.specs.declared.inside.Inside.{Inside}
use Rattle.worst.specs.declared.inside.Insides.{Insides}
use Rattle.worst.specs.declared.inside.Sides.{Sides}
use Rattle.worst.specs.Best.{Best, at}
use Rattle.worst.specs.Quick.{over}
use Rattle.worst.specs.Sums.{Sums}
use Rattle.worst.specs.Engine.{Cell, cell, sum_of, internal_numbered}

-- the one of a number, in thousandths
abbrev pub inside_numbered : Internals → ℕ → Inside
inside_numbered is i = record { part = internal_numbered is i *ℤ pos 10; number = i }

-- what each side takes at a weight
abbrev pub sides_of : Insides → ℤ → Sides
sides_of t weight =
    cond (lt_z (pos 0) weight) (record { up = t.low; down = t.high })
    (cond (lt_z weight (pos 0)) (record { up = t.high; down = t.low }) (record { up = t.first; down = t.first }))

abbrev pub side_in : Side → Sides → Inside
side_in Greatest t = t.up
side_in Least t = t.down

-- the cell of a wind at one of them, with its total; and the furthest
abbrev pub cell_at : ℤ → ℤ → ℕ → Inside → Best Cell
cell_at sum weight w c = at (sum -ℤ c.part *ℤ weight) (cell w c.number)

abbrev pub furthest_cell : Side → Sums → Insides → ℕ → Best Cell
furthest_cell s p t w = cell_at (sum_of s p) p.weight w (side_in s (sides_of t p.weight))

-- it is the best over the first n
abbrev pub Furthest : Internals → ℕ → Insides → Type 0
Furthest is n t = (s : Side) (sum weight : ℤ) (w : ℕ) → cell_at sum weight w (side_in s (sides_of t weight))
    ≡ over s (λ i. cell_at sum weight w (inside_numbered is i)) (numbers n 1)

abbrev pub InsideSmall : Inside → Type 0
InsideSmall c = nat_abs c.part ≤ 1000

pub record InsidesSmall (t : Insides) : Type 0 where
  pub first : InsideSmall t.first
  pub low : InsideSmall t.low
  pub high : InsideSmall t.high
