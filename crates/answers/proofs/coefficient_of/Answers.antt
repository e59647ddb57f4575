-- `coefficient_of`: each arm is a clause of `host_coefficient`.
use mathlib.Core.Path.{sym, ap, ◌∙◌}
use Rattle.answers.specs.Answers.{host_coefficient}
use Rattle.answers.proofs.coefficient_of.Goals as goal

pub returns-in-Ok : goal.returns-in-Ok
returns-in-Ok c = c.of_cited.ensures ∙ ap host_coefficient (sym c.in-Ok.is)

pub returns-in-Err : goal.returns-in-Err
returns-in-Err c = ap host_coefficient (sym c.in-Err.is)
