-- `put_all_lem::put_taken` meets its contract.
use borrow.Author.Tests.{eq-eqb, ne_eqb}
use Rattle.page.proofs.Put.{put-nothing}
use Rattle.mend.proofs.fill.put_taken.Goals as goal

pub returns-then-kind-eq0 : goal.returns-then-kind-eq0
returns-then-kind-eq0 c =
    let a = c.args in
    rw (eq-eqb _ 0 c.if-kind-eq0.true) (put-nothing a.list.now a.at c.requires)

pub returns : goal.returns
returns c =
    rw (ne_eqb _ 0 c.if-kind-eq0.false) c.put_change.ensures
