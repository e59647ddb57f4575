-- What the records with doubles must hold, by `Right`, which is what the panel must get for a total.
use Rattle.std.specs.Prelude.{◌≡◌, ◌≤◌, ◌^◌, ℤ, nat_abs, Float}
use Rattle.pair.specs.declared.Pair.{Pair}
use Rattle.panel.specs.declared.Panel.{Panel}
use Rattle.panel.specs.declared.Point.{Point}
use Rattle.panel.specs.Right.{Right}
use Rattle.panel.specs.Chart.{low_of, high_of}
use Rattle.panel.specs.Pairs.{RightNewtons}

-- a signed 64-bit number
abbrev pub Signed64 : ℤ → Type 0
Signed64 total = nat_abs total ≤ 2 ^ 63

-- low and high of a total: "where exact, low and high are the same"
pub record LowAndHigh (total : ℤ) (low high : Float) : Type 0 where
  pub panel : Panel
  pub right : Right total panel
  pub low-is : low ≡ low_of panel
  pub high_is : high ≡ high_of panel

-- "A chart point is a record of low and high doubles for the three axes"
pub record RightPoint (x y z : ℤ) (p : Point) : Type 0 where
  pub on-x : LowAndHigh x p.x_low p.x_high
  pub on-y : LowAndHigh y p.y_low p.y_high
  pub on-z : LowAndHigh z p.z_low p.z_high

-- ---- of newtons with a remainder

pub record PairLowAndHigh (t : Pair) (low high : Float) : Type 0 where
  pub panel : Panel
  pub right : RightNewtons t.newtons t.remainder panel
  pub low-is : low ≡ low_of panel
  pub high_is : high ≡ high_of panel

pub record RightPairs (x y z : Pair) (p : Point) : Type 0 where
  pub on-x : PairLowAndHigh x p.x_low p.x_high
  pub on-y : PairLowAndHigh y p.y_low p.y_high
  pub on-z : PairLowAndHigh z p.z_low p.z_high
