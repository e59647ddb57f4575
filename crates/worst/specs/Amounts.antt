-- What the engine's sums stand for, as whole numbers, and how large they are. Only contracts of private functions cite
-- it.
use Rattle.std.specs.Prelude.{ℕ, ◌*◌, ◌≤◌, ℤ, pos, nat_abs, ◌+ℤ◌, ◌*ℤ◌}
use Rattle.whole.specs.Newton.{newton}
use Rattle.worst.specs.declared.amounts.Amount.{Amount}
use Rattle.worst.specs.declared.sums.AxisSums.{AxisSums}
use Rattle.worst.specs.declared.sums.AllSums.{AllSums}
use Rattle.worst.specs.Sums.{Sums, Axes}

-- ---- what they stand for

unfoldable pub amount_in : Amount → ℤ
amount_in a = a.newtons *ℤ pos newton +ℤ a.units

abbrev pub sums_in : AxisSums → Sums
sums_in a = record { greatest = amount_in a.greatest; least = amount_in a.least; weight = a.weight }

abbrev pub axes_in : AllSums → Axes
axes_in a = record { x = sums_in a.x; y = sums_in a.y; z = sums_in a.z }

-- ---- how large they are, after n faces

pub record AmountSmall (n : ℕ) (a : Amount) : Type 0 where
  pub newtons : nat_abs a.newtons ≤ n * 220000000
  pub units : nat_abs a.units ≤ 4400000000000000000

pub record AxisSumsSmall (n : ℕ) (a : AxisSums) : Type 0 where
  pub greatest : AmountSmall n a.greatest
  pub least : AmountSmall n a.least
  pub weight : nat_abs a.weight ≤ n * 150000000000000

pub record AllSumsSmall (n : ℕ) (a : AllSums) : Type 0 where
  pub x : AxisSumsSmall n a.x
  pub y : AxisSumsSmall n a.y
  pub z : AxisSumsSmall n a.z

-- and less an internal coefficient's part
pub record AmountFits (a : Amount) : Type 0 where
  pub newtons : nat_abs a.newtons ≤ 60000000000
  pub units : nat_abs a.units ≤ 5000000000000000000
