-- A limit's test by the comparison that it comes to.
use mathlib.Core.Path.{◌≡◌}
use mathlib.Core.Bool.{true}
use Prim.Native.Nat.{ℕ, ◌*◌, ◌≤◌}
use borrow.Author.Tests.{le-leb}
use Rattle.building.specs.Ratio.{◌÷◌, up_to}

pub up_to-yes : (y z n d : ℕ) → d * y ≤ n * z → up_to y z (n ÷ d) ≡ true
up_to-yes y z n d h = le-leb (d * y) (n * z) h
