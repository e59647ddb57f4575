-- `walk::is_needless` meets its contract.
use mathlib.Core.Path.{◌∙◌}
use borrow.Author.Tests.{eq-eqb, ne_eqb}
use Rattle.mend.proofs.walk.is_needless.Goals as goal

pub returns-then-before-eq32 : goal.returns-then-before-eq32
returns-then-before-eq32 c = rw (eq-eqb _ 32 c.if-before-eq32.true)

pub returns : goal.returns
returns c = c.runs_on.ensures ∙ rw (ne_eqb _ 32 c.if-before-eq32.false)
