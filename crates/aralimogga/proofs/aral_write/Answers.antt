-- `aral_write`: its sheet, as a record for C.
use mathlib.Core.Path.{ap, ◌∙◌}
use Rattle.answers.specs.Answers.{host_text}
use Rattle.aralimogga.proofs.aral_write.Goals as goal

pub returns : goal.returns
returns c =
    (c.text_of.ensures ∙ ap host_text c.write_sheet.ensures.0, c.write_sheet.ensures.1)
