-- Sums that are small after n faces are so after more.
use Prim.Native.Nat.{ℕ, ◌≤◌}
use native.Mathlib.Omega.{arith}
use Rattle.worst.specs.declared.amounts.Amount.{Amount}
use Rattle.worst.specs.declared.sums.AxisSums.{AxisSums}
use Rattle.worst.specs.declared.sums.AllSums.{AllSums}
use Rattle.worst.specs.declared.few.FewAxis.{FewAxis}
use Rattle.worst.specs.declared.few.FewSums.{FewSums}
use Rattle.worst.specs.Few.{FewAxisSmall, FewSmall}
use Rattle.worst.specs.Amounts.{AmountSmall, AxisSumsSmall, AllSumsSmall}

module _ (n m : ℕ) where
  pub amount-more : (a : Amount) → n ≤ m → AmountSmall n a → AmountSmall m a
  amount-more a t s = record { newtons = omega (arith, s.newtons); units = s.units }

  axis-more : (a : AxisSums) → n ≤ m → AxisSumsSmall n a → AxisSumsSmall m a
  axis-more a t s =
      record {
        greatest = amount-more a.greatest t s.greatest;
        least = amount-more a.least t s.least;
        weight = omega (arith, s.weight);
      }

  pub all_more : (a : AllSums) → n ≤ m → AllSumsSmall n a → AllSumsSmall m a
  all_more a t s =
      record {
        x = axis-more a.x t s.x;
        y = axis-more a.y t s.y;
        z = axis-more a.z t s.z;
      }

  few-axis-more : (a : FewAxis) → n ≤ m → FewAxisSmall n a → FewAxisSmall m a
  few-axis-more a t s =
      record {
        greatest = omega (arith, s.greatest);
        least = omega (arith, s.least);
        weight = omega (arith, s.weight);
      }

  pub few-more : (a : FewSums) → n ≤ m → FewSmall n a → FewSmall m a
  few-more a t s =
      record {
        x = few-axis-more a.x t s.x;
        y = few-axis-more a.y t s.y;
        z = few-axis-more a.z t s.z;
      }
