-- `mirror`: each arm is a clause of `mirrored`.
use mathlib.Core.Path.{sym, ap}
use Rattle.panel.specs.Bracket.{mirrored}
use Rattle.panel.proofs.mirror.Goals as goal

pub returns-in-Exact : goal.returns-in-Exact
returns-in-Exact c = ap mirrored (sym c.in-Exact.is)

pub returns-in-Between : goal.returns-in-Between
returns-in-Between c = ap mirrored (sym c.in-Between.is)
