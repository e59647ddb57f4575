-- The sums of up to 24 faces under a wind, as whole numbers, and how large they are. Only contracts of private
-- functions cite it.
use Rattle.std.specs.Prelude.{ℕ, ◌*◌, ◌≤◌, nat_abs}
use Rattle.worst.specs.declared.few.FewAxis.{FewAxis}
use Rattle.worst.specs.declared.few.FewSums.{FewSums}
use Rattle.worst.specs.Sums.{Sums, Axes}

abbrev pub few_in : FewAxis → Sums
few_in a = record { greatest = a.greatest; least = a.least; weight = a.weight }

abbrev pub few_axes : FewSums → Axes
few_axes a = record { x = few_in a.x; y = few_in a.y; z = few_in a.z }

-- of n faces
pub record FewAxisSmall (n : ℕ) (a : FewAxis) : Type 0 where
  pub greatest : nat_abs a.greatest ≤ n * 180000000000000000
  pub least : nat_abs a.least ≤ n * 180000000000000000
  pub weight : nat_abs a.weight ≤ n * 150000000000000

pub record FewSmall (n : ℕ) (a : FewSums) : Type 0 where
  pub x : FewAxisSmall n a.x
  pub y : FewAxisSmall n a.y
  pub z : FewAxisSmall n a.z
