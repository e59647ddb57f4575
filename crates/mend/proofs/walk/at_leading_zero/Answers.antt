-- `walk::at_leading_zero` meets its contract.
use mathlib.Core.Path.{sym, ap, ◌∙◌}
use Rattle.whole.specs.Digits.{is_digit}
use Rattle.mend.specs.OneWalk.{at_leading_zero}
use Rattle.mend.proofs.walk.at_leading_zero.Goals as goal

pub returns-then-is_digit : goal.returns-then-is_digit
unfolding at_leading_zero
returns-then-is_digit c =
    rw (c.if-zeros.true, sym (ap is_digit c.next_byte-b.ensures) ∙ sym c.is_digit.ensures ∙ c.if-is_digit.true)

pub returns-else-is_digit : goal.returns-else-is_digit
unfolding at_leading_zero
returns-else-is_digit c =
    rw (c.if-zeros.true, sym (ap is_digit c.next_byte-b.ensures) ∙ sym c.is_digit.ensures ∙ c.if-is_digit.false)

pub returns-else-zeros : goal.returns-else-zeros
unfolding at_leading_zero
returns-else-zeros c = rw c.if-zeros.false
