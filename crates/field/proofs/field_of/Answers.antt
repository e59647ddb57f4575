-- `field_of` meets its contract: each way through the tests is one of the definition's cases.
use mathlib.Core.Path.{◌∙◌}
use Rattle.field.proofs.Fields.{field-many, field-dash, field-low, field-high, field-letter}
use Rattle.field.proofs.field_of.Goals as goal

pub returns-then-s-ne1 : goal.returns-then-s-ne1
returns-then-s-ne1 c = c.number_of.ensures ∙ field-many _ c.if-s-ne1.true

pub returns-then-b-eq45 : goal.returns-then-b-eq45
returns-then-b-eq45 c = field-dash _ c.if-s-ne1.false c.if-b-eq45.true

pub returns-then-b-lt65 : goal.returns-then-b-lt65
returns-then-b-lt65 c =
    c.number_of-then-b-lt65.ensures ∙ field-low _ c.if-s-ne1.false c.if-b-eq45.false c.if-b-lt65.true

pub returns-then-b-gt90 : goal.returns-then-b-gt90
returns-then-b-gt90 c =
    c.number_of-then-b-gt90.ensures
    ∙ field-high _ c.if-s-ne1.false c.if-b-eq45.false c.if-b-lt65.false
    c.if-b-gt90.true

pub returns : goal.returns
returns c =
    field-letter _ c.if-s-ne1.false c.if-b-eq45.false c.if-b-lt65.false c.if-b-gt90.false
