-- `unsigned_of` meets its contract: each test is one of the definition's.
use mathlib.Core.Path.{◌∙◌}
use Rattle.field.proofs.Fields.{form-none, form-long, form-led, unsigned-no, unsigned-zero, unsigned-plain}
use Rattle.field.proofs.unsigned_of.Goals as goal

pub returns-then-s-eq0 : goal.returns-then-s-eq0
returns-then-s-eq0 c = unsigned-no _ (form-none _ c.if-s-eq0.true)

pub returns-then-s-gt7 : goal.returns-then-s-gt7
returns-then-s-gt7 c = unsigned-no _ (form-long _ c.if-s-gt7.true)

pub returns-then-s-gt1 : goal.returns-then-s-gt1
returns-then-s-gt1 c =
    unsigned-no _ (form-led _ c.if-s-eq0.false c.if-s-gt7.false c.if-s-gt1.true c.if-s-eq48.true)

pub returns-then-s-eq48 : goal.returns-then-s-eq48
returns-then-s-eq48 c =
    unsigned-zero _ c.if-s-eq0.false c.if-s-gt1.false c.if-s-eq48.true

pub returns : goal.returns
returns c =
    c.digits_of.ensures ∙ unsigned-plain _ c.if-s-eq0.false c.if-s-gt7.false c.if-s-eq48.false
