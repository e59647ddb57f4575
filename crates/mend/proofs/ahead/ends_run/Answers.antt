-- `ahead::ends_run` meets its contract.
use mathlib.Core.Path.{◌∙◌}
use Rattle.mend.proofs.ahead.ends_run.Goals as goal

pub returns-then-digits : goal.returns-then-digits
returns-then-digits c = c.parts_fields.ensures ∙ rw c.if-digits.true

pub returns : goal.returns
returns c = rw c.if-digits.false
