-- `put_refused` meets its contract: the word and the two numbers, one after the other.
use Rattle.page.proofs.Put.{then}
use Rattle.report.proofs.Reports.{refused-parts}
use Rattle.report.proofs.refusal.put_refused.Goals as goal

pub returns : goal.returns
returns c =
    rw refused-parts
    (then (then (then c.put_bytes-word.ensures c.put_spaced-numbered.ensures) c.put_spaced-placed.ensures)
    c.put_byte.ensures)
