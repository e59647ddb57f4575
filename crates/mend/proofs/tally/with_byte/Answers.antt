-- `tally::with_byte` meets its contract.
use borrow.Author.Tests.{eq-eqb, ne_eqb}
use Rattle.mend.proofs.tally.with_byte.Goals as goal

pub returns-then-kind-eq0 : goal.returns-then-kind-eq0
returns-then-kind-eq0 c = rw (eq-eqb _ 0 c.if-kind-eq0.true)

pub returns : goal.returns
returns c = rw (ne_eqb _ 0 c.if-kind-eq0.false)
