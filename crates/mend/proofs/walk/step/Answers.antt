-- `walk::step` meets its contract.
use mathlib.Core.Path.{◌∙◌}
use Rattle.mend.proofs.Steps.{after-return, after-space, after_plus, after-zero, after_minus, after-other}
use Rattle.mend.proofs.walk.step.Goals as goal

pub returns-then-b-eq13 : goal.returns-then-b-eq13
returns-then-b-eq13 c = after-return _ _ _ c.if-b-eq13.true

pub returns-then-b-eq32 : goal.returns-then-b-eq32
returns-then-b-eq32 c = c.at_space.ensures ∙ after-space _ _ _ c.if-b-eq32.true

pub returns-then-b-eq43 : goal.returns-then-b-eq43
returns-then-b-eq43 c = c.at_plus.ensures ∙ after_plus _ _ _ c.if-b-eq43.true

pub returns-then-b-eq48 : goal.returns-then-b-eq48
returns-then-b-eq48 c = c.at_zero.ensures ∙ after-zero _ _ _ c.if-b-eq48.true

pub returns-then-b-eq45 : goal.returns-then-b-eq45
returns-then-b-eq45 c = c.stay.ensures ∙ after_minus _ _ _ c.if-b-eq45.true _ c.parts_fields-lead.ensures

pub returns : goal.returns
returns c =
    c.stay-2.ensures
    ∙ after-other _ _ _ c.if-b-eq13.false c.if-b-eq32.false c.if-b-eq43.false c.if-b-eq48.false c.if-b-eq45.false _
    c.parts_fields-lead-2.ensures
