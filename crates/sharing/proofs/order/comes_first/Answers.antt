-- `order::comes_first` meets its contract, test by test.
use borrow.Author.Tests.{eq-eqb, ne_eqb}
use Rattle.sharing.proofs.order.comes_first.Goals as goal

pub returns-then-s-r : goal.returns-then-s-r
returns-then-s-r c = rw (eq-eqb _ _ c.if-s-r.true)

pub returns : goal.returns
returns c = rw (ne_eqb _ _ c.if-s-r.false)
