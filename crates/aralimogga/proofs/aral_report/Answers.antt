-- `aral_report`: what is written of the sheet, as a record for C.
use mathlib.Core.Path.{ap, ◌∙◌}
use Rattle.answers.specs.Answers.{host_text}
use Rattle.aralimogga.proofs.aral_report.Goals as goal

pub returns : goal.returns
returns c =
    (c.text_of.ensures ∙ ap host_text c.write_read.ensures.0, c.write_read.ensures.1)
