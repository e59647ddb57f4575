-- `ahead::parts_fields` meets its contract.
use borrow.Author.Tests.{eq-eqb, ne_eqb}
use Rattle.mend.proofs.ahead.parts_fields.Goals as goal

pub returns-then-b-eq32 : goal.returns-then-b-eq32
returns-then-b-eq32 c = rw (eq-eqb _ 32 c.if-b-eq32.true)

pub returns : goal.returns
returns c = rw (ne_eqb _ 32 c.if-b-eq32.false)
