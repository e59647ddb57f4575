-- The sums of the faces under a wind, as whole numbers. Only contracts of private functions cite it.
use Rattle.std.specs.Prelude.{ℤ, pos, ◌+ℤ◌}

-- on one axis, of the products of outside coefficient and weight the greatest and the least sum; and the sum of the
-- weights
pub record Sums : Type 0 where
  pub greatest : ℤ
  pub least : ℤ
  pub weight : ℤ

pub record Axes : Type 0 where
  pub x : Sums
  pub y : Sums
  pub z : Sums

-- of no face
abbrev pub no_sums : Sums
no_sums = record { greatest = pos 0; least = pos 0; weight = pos 0 }

abbrev pub no_axes : Axes
no_axes = record { x = no_sums; y = no_sums; z = no_sums }

-- of some faces and of others
abbrev pub plus_sums : Sums → Sums → Sums
plus_sums p q =
    record {
      greatest = p.greatest +ℤ q.greatest;
      least = p.least +ℤ q.least;
      weight = p.weight +ℤ q.weight;
    }

abbrev pub plus_axes : Axes → Axes → Axes
plus_axes p q = record { x = plus_sums p.x q.x; y = plus_sums p.y q.y; z = plus_sums p.z q.z }
