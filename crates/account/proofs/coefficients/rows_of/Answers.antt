-- `coefficients::rows_of` meets its contract: an arm for each answer.
use mathlib.Core.Path.{sym, ap}
use Rattle.account.specs.Account.{cited_rows}
use Rattle.account.proofs.coefficients.rows_of.Goals as goal

pub returns-in-Ok : goal.returns-in-Ok
returns-in-Ok c = ap cited_rows (sym c.in-Ok.is)
