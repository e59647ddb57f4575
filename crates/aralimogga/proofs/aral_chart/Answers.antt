-- `aral_chart`: the totals are read back as they are.
use Rattle.whole.proofs.Size.{param}
use Rattle.aralimogga.proofs.aral_chart.Goals as goal

pub returns : goal.returns
returns c =
    let f = c.ranges in
    rw ((param f.x).same, (param f.y).same, (param f.z).same) at c.chart.ensures
