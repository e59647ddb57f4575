-- `ahead::in_run` meets its contract.
use mathlib.Core.Path.{◌∙◌}
use borrow.Author.Tests.{eq-eqb, ne_eqb}
use Rattle.mend.proofs.ahead.in_run.Goals as goal

pub returns-then-b-eq13 : goal.returns-then-b-eq13
returns-then-b-eq13 c = rw (eq-eqb _ 13 c.if-b-eq13.true)

pub returns-then-digits : goal.returns-then-digits
returns-then-digits c = c.is_digit.ensures ∙ rw (ne_eqb _ 13 c.if-b-eq13.false, c.if-digits.true)

pub returns : goal.returns
returns c = rw (ne_eqb _ 13 c.if-b-eq13.false, c.if-digits.false)
