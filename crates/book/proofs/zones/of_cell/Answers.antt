-- `zones::of_cell`: ten times a number of 16 bits fits 32.
use mathlib.Core.Path.{ap, ◌∙◌}
use lib.IntN.{pos}
use mir.Syntax.{w32}
use Rattle.whole.proofs.Size.{Num, fit, param, num, back, ◌⊗◌}
use Rattle.book.specs.Zones.{both_ends}
use Rattle.book.proofs.zones.of_cell.Goals.{Start}
use Rattle.book.proofs.zones.of_cell.Goals as goal

abbrev tenfold : Start → Num
tenfold c = back w32 (param c.ranges.v) tt ⊗ num (pos 10)

pub overflow_cast-v : goal.overflow_cast-v
overflow_cast-v c = fit {w = w32} (param c.ranges.v) tt

pub overflow_mul-v : goal.overflow_mul-v
overflow_mul-v c = fit {w = w32} (tenfold c) tt

pub returns : goal.returns
returns c = c.alone.ensures ∙ ap both_ends (back w32 (tenfold (goal.at.returns c).Start) tt).same
