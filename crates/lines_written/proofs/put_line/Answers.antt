-- `put_line` meets its contract.
use Rattle.lines.specs.Lines.{text_of_lines}
use Rattle.page.proofs.Put.{then}
use Rattle.lines_written.proofs.put_line.Goals as goal

pub returns : goal.returns
unfolding text_of_lines
returns c = then c.put_fields-next.ensures c.put_byte.ensures
