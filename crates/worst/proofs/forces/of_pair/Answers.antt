-- `forces::of_pair` meets its contract: both numbers are read back as they were.
use mir.Syntax.{w64}
use Rattle.whole.proofs.Size.{param, back, fit}
use Rattle.worst.proofs.forces.of_pair.Goals as goal

pub overflow_cast-result : goal.overflow_cast-result
overflow_cast-result c = fit {w = w64} (param c.ranges.first) tt

pub overflow_cast-result-2 : goal.overflow_cast-result-2
overflow_cast-result-2 c = fit {w = w64} (param c.ranges.last) tt

pub returns : goal.returns
returns c =
    λ j. record {
      count = c.args.count;
      first = (back w64 (param c.ranges.first) tt).same j;
      last = (back w64 (param c.ranges.last) tt).same j;
    }
