-- `put_all_lem::next_position` meets its contract.
use borrow.Author.Tests.{eq-eqb, ne_eqb}
use Rattle.mend.proofs.fill.next_position.Goals as goal

pub returns-then-b-eq10 : goal.returns-then-b-eq10
returns-then-b-eq10 c = rw (eq-eqb _ 10 c.if-b-eq10.true)

pub returns : goal.returns
returns c = rw (ne_eqb _ 10 c.if-b-eq10.false)
