-- A chart point: "a record of low and high doubles for the three axes; where exact, low and high are the same".
use Rattle.std.specs.Prelude.{ℤ, Float}
use Rattle.panel.specs.declared.Panel.{Panel}
use Rattle.panel.specs.declared.Panel.TheVariants.{Exact, Between}
use Rattle.panel.specs.declared.Point.{Point}
use Rattle.panel.specs.Bracket.{panel_of}

abbrev pub low_of : Panel → Float
low_of (Exact x) = x
low_of (Between low high) = low

abbrev pub high_of : Panel → Float
high_of (Exact x) = x
high_of (Between low high) = high

-- of a panel for each axis
abbrev pub point_in : Panel → Panel → Panel → Point
point_in x y z =
    record {
      x_low = low_of x;
      x_high = high_of x;
      y_low = low_of y;
      y_high = high_of y;
      z_low = low_of z;
      z_high = high_of z;
    }

abbrev pub point_of : ℤ → ℤ → ℤ → Point
point_of x y z = point_in (panel_of x) (panel_of y) (panel_of z)
