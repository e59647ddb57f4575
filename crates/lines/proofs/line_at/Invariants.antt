-- `line_at` meets its contract: the line that comes of the fields passed and those from `next` on is the whole line.
use mathlib.Core.Path.{◌≡◌}
use lib.ListN.{drop}
use Rattle.lines.specs.Lines.{split}
use Rattle.lines.specs.Held.{line_at}
use Rattle.lines.proofs.Filled.{line_on}
use Rattle.lines.proofs.line_at.Given as goal

abbrev pub invariant-loop-k : goal.invariant-loop-k
invariant-loop-k l = line_at l.s l.at ≡ line_on l.k l.fields l.next (split 10 (drop l.next l.s))
