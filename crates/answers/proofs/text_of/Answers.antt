-- `text_of`: each arm is a clause of `host_text`.
use mathlib.Core.Path.{sym, ap, ◌∙◌}
use Rattle.answers.specs.Answers.{host_text}
use Rattle.answers.proofs.text_of.Goals as goal

pub returns-in-Ok : goal.returns-in-Ok
returns-in-Ok c = ap host_text (sym c.in-Ok.is)

pub returns-in-Err : goal.returns-in-Err
returns-in-Err c = c.no_text.ensures ∙ ap host_text (sym c.in-Err.is)
