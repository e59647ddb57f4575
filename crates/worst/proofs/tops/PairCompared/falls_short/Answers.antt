-- A pair falls short of another as their totals do.
use mathlib.Core.Path.{◌∙◌}
use Rattle.pair.proofs.Order.{lesser-units}
use Rattle.worst.proofs.tops.PairCompared.falls_short.Goals as goal

pub returns-in-Greatest : goal.returns-in-Greatest
returns-in-Greatest c =
    rw c.in-Greatest.is
    (c.less.ensures ∙ lesser-units c.args.self c.args.later c.requires.0 c.requires.1)

pub returns-in-Least : goal.returns-in-Least
returns-in-Least c =
    rw c.in-Least.is
    (c.less-in-Least.ensures ∙ lesser-units c.args.later c.args.self c.requires.1 c.requires.0)
