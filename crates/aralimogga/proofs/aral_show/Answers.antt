-- `aral_show`: what its sums tell, as a record for C.
use mathlib.Core.Path.{ap, ◌∙◌}
use Rattle.answers.specs.Answers.{host_text}
use Rattle.aralimogga.proofs.aral_show.Goals as goal

pub returns : goal.returns
returns c =
    (c.text_of.ensures ∙ ap host_text c.write_stored.ensures.0, c.write_stored.ensures.1)
