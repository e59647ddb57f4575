-- `walk::at_space` meets its contract.
use mathlib.Core.Path.{sym, ◌∙◌}
use Rattle.mend.proofs.Steps.{space-out, space-stays}
use Rattle.mend.proofs.walk.at_space.Goals as goal

pub returns-then-is_needless : goal.returns-then-is_needless
returns-then-is_needless c = space-out _ _ (sym c.is_needless.ensures ∙ c.if-is_needless.true)

pub returns : goal.returns
returns c = c.stay.ensures ∙ space-stays _ _ (sym c.is_needless.ensures ∙ c.if-is_needless.false)
