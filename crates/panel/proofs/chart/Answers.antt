-- `chart`: the point of the panels of its totals.
use Rattle.whole.proofs.Size.{param}
use Rattle.panel.proofs.chart.Goals as goal

pub returns : goal.returns
returns c =
    cc ((param c.ranges.x).same, (param c.ranges.y).same, (param c.ranges.z).same)
