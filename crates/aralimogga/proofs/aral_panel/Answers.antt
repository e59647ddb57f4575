-- `aral_panel`: the total is read back as it is.
use mathlib.Core.Path.{ap, ◌∙◌}
use Rattle.whole.proofs.Size.{param}
use Rattle.panel.specs.Bracket.{panel_of}
use Rattle.answers.specs.Answers.{host_double}
use Rattle.aralimogga.proofs.aral_panel.Goals as goal

pub returns : goal.returns
returns c =
    c.double_of.ensures ∙ ap host_double (c.panel_of.ensures ∙ ap panel_of (param c.ranges.total).same)
