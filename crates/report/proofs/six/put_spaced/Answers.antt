-- `put_spaced` meets its contract: a space, and then the number.
use Rattle.page.proofs.Put.{then}
use Rattle.report.proofs.Lines.{spaced-one}
use Rattle.report.proofs.six.put_spaced.Goals as goal

pub returns : goal.returns
returns c =
    rw spaced-one (then c.put_byte-next.ensures c.put_natural.ensures)
