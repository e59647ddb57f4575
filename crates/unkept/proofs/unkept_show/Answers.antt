-- `unkept_show`: its report, as a record for C.
use mathlib.Core.Path.{ap, ◌∙◌}
use Rattle.answers.specs.Answers.{host_text}
use Rattle.unkept.proofs.unkept_show.Goals as goal

pub returns : goal.returns
returns c =
    (c.text_of.ensures ∙ ap host_text c.write_report.ensures.0, c.write_report.ensures.1)
