-- `aral_net`: each number is read back as it is.
use mathlib.Core.Path.{ap, ◌∙◌}
use Rattle.whole.proofs.Size.{param}
use Rattle.answers.specs.Answers.{host_coefficient}
use Rattle.aralimogga.proofs.aral_net.Goals as goal

pub returns : goal.returns
returns c =
    let f = c.ranges in
    let e =
    rw (
      (param f.year).same,
      (param f.h).same,
      (param f.a).same,
      (param f.b).same,
      (param f.density).same,
      (param f.kind).same,
      (param f.x).same,
      (param f.direction).same,
      (param f.internal).same,
    )
    at c.net.ensures in
    c.coefficient_of.ensures ∙ ap host_coefficient e
