-- `put_all_lem::put_kept` meets its contract.
use borrow.Author.Tests.{eq-eqb, ne_eqb}
use Rattle.page.proofs.Put.{put-nothing}
use Rattle.mend.proofs.fill.put_kept.Goals as goal

pub returns-then-kind-ne0 : goal.returns-then-kind-ne0
returns-then-kind-ne0 c =
    let a = c.args in
    rw (ne_eqb _ 0 c.if-kind-ne0.true) (put-nothing a.out.now a.at c.requires)

pub returns : goal.returns
returns c =
    rw (eq-eqb _ 0 c.if-kind-ne0.false) c.put_byte.ensures
