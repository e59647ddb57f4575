-- `put_all_lem::put_change` meets its contract.
use Rattle.page.proofs.Put.{then}
use Rattle.mend.proofs.fill.put_change.Goals as goal

pub returns : goal.returns
returns c =
    then (then c.put_number-a.ensures c.put_number-b.ensures) c.put_number.ensures
