-- `walk::at_plus` meets its contract.
use mathlib.Core.Bool.{not}
use mathlib.Core.Path.{sym, ap, ◌∙◌}
use Rattle.whole.specs.Digits.{is_digit}
use Rattle.mend.specs.OneWalk.{at_plus}
use Rattle.mend.proofs.walk.at_plus.Goals as goal

pub returns-then-not-parts_fields : goal.returns-then-not-parts_fields
unfolding at_plus
returns-then-not-parts_fields c =
    c.stay.ensures ∙ rw (sym c.parts_fields.ensures ∙ c.if-not-parts_fields.true)

pub returns-then-not-is_digit : goal.returns-then-not-is_digit
unfolding at_plus
returns-then-not-is_digit c =
    c.stay-then-not-is_digit.ensures
    ∙ rw (
      sym c.parts_fields.ensures ∙ c.if-not-parts_fields.false,
      sym (ap is_digit c.next_byte-b.ensures) ∙ sym c.is_digit.ensures ∙ c.if-not-is_digit.true,
    )

pub returns : goal.returns
unfolding at_plus
returns c =
    rw (
      sym c.parts_fields.ensures ∙ c.if-not-parts_fields.false,
      sym (ap is_digit c.next_byte-b.ensures) ∙ sym c.is_digit.ensures ∙ c.if-not-is_digit.false,
    )
