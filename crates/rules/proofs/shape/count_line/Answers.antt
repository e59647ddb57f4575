-- `count_line` meets its contract.
use Rattle.lines.specs.Held.{held_line}
use Rattle.rules.proofs.shape.count_line.Goals as goal

pub returns : goal.returns
unfolding held_line
returns c = rw c.section_letter-letter.ensures
