-- `sums::nothing` meets its contract: zeros.
use mathlib.Core.Path.{refl}
use native.Mathlib.Omega.{arith}
use Rattle.worst.specs.declared.amounts.Amount.{Amount}
use Rattle.worst.specs.declared.sums.AxisSums.{AxisSums}
use Rattle.worst.specs.Amounts.{amount_in, AmountSmall, AxisSumsSmall}
use lib.IntN.{pos}
use Rattle.worst.proofs.sums.nothing.Goals as goal

abbrev zero : Amount
zero = record { newtons = pos 0; units = pos 0 }

abbrev none : AxisSums
none = record { greatest = zero; least = zero; weight = pos 0 }

small : AxisSumsSmall 0 none
small =
    let least : AmountSmall 0 zero = record { newtons = omega arith; units = omega arith } in
    record { greatest = least; least = least; weight = omega arith }

pub returns : goal.returns
unfolding amount_in
returns c = (refl, record { x = small; y = small; z = small })
