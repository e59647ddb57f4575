-- `double_of`: each arm is a clause of `host_double`.
use mathlib.Core.Path.{sym, ap}
use Rattle.answers.specs.Answers.{host_double}
use Rattle.answers.proofs.double_of.Goals as goal

pub returns-in-Exact : goal.returns-in-Exact
returns-in-Exact c = ap host_double (sym c.in-Exact.is)

pub returns-in-Between : goal.returns-in-Between
returns-in-Between c = ap host_double (sym c.in-Between.is)
