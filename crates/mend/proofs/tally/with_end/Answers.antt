-- `tally::with_end` meets its contract.
use borrow.Author.Tests.{eq-eqb, ne_eqb}
use Rattle.mend.proofs.tally.with_end.Goals as goal

pub returns-then-t-eq10 : goal.returns-then-t-eq10
returns-then-t-eq10 c = rw (eq-eqb _ 10 c.if-t-eq10.true)

pub returns : goal.returns
returns c = rw (ne_eqb _ 10 c.if-t-eq10.false)
