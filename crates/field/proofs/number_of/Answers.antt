-- `number_of` meets its contract.
use mathlib.Core.Path.{ap, ◌∙◌}
use native.Mathlib.Nat.{le_of_eq}
use lib.ListN.{length-drop}
use lib.Seq.{take_all}
use Rattle.field.specs.Field.{negative}
use Rattle.field.proofs.Fields.{number-none, number-minus, number-plus}
use Rattle.field.proofs.number_of.Goals as goal

pub returns-then-s-eq0 : goal.returns-then-s-eq0
returns-then-s-eq0 c = number-none _ c.if-s-eq0.true

pub returns-then-s-eq45 : goal.returns-then-s-eq45
returns-then-s-eq45 c =
    let s = c.args.s.now in
    c.negative_of.ensures ∙ ap negative (take_all _ _ (le_of_eq (length-drop 1 s))) ∙ number-minus s c.if-s-eq45.true

pub returns : goal.returns
returns c = c.unsigned_of.ensures ∙ number-plus _ c.if-s-eq45.false
