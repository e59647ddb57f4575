-- `aral_panel_newtons`: the newtons are read back as they are.
use mathlib.Core.Path.{ap, ◌∙◌}
use lib.IntN.{ℤ}
use Rattle.whole.proofs.Size.{said}
use Rattle.panel.specs.Pairs.{panel_of_newtons}
use Rattle.answers.specs.Answers.{host_double}
use Rattle.aralimogga.proofs.aral_panel_newtons.Goals as goal

pub returns : goal.returns
returns c =
    let a = c.args in
    c.double_of.ensures
    ∙ ap host_double
    (said (λ (z : ℤ). panel_of_newtons z a.remainder) a.newtons c.panel_of_newtons.ensures
    c.ranges.newtons.sfits)
