-- `walk::at_zero` meets its contract.
use mathlib.Core.Path.{◌∙◌}
use borrow.Author.Tests.{not-true, not-false}
use Rattle.mend.proofs.Steps.{zero-inside, zero-again, zero-first}
use Rattle.mend.proofs.walk.at_zero.Goals as goal

pub returns-then-not-w : goal.returns-then-not-w
returns-then-not-w c = c.stay.ensures ∙ zero-inside _ _ (not-true _ c.if-not-w.true)

pub returns-then-w-eq48 : goal.returns-then-w-eq48
returns-then-w-eq48 c =
    c.at_leading_zero.ensures ∙ zero-again _ _ (not-false _ c.if-not-w.false) c.if-w-eq48.true

pub returns : goal.returns
returns c =
    c.at_leading_zero-2.ensures
    ∙ zero-first _ _ (not-false _ c.if-not-w.false) c.if-w-eq48.false _ c.runs_on-zeros.ensures
