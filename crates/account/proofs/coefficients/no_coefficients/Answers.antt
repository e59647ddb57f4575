-- `coefficients::no_coefficients` meets its contract.
use lib.IntN.{pos}
use Rattle.account.proofs.coefficients.no_coefficients.Goals as goal

pub returns : goal.returns
returns c = λ i. record { rows = c.no_rows-rows.ensures i; outside = pos 0; net = pos 0 }
