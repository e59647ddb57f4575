-- `question::less`: both numbers are small, so that every step fits.
use lib.IntN.{pos}
use mir.Syntax.{w32, w64}
use Rattle.whole.proofs.Size.{Num, fit, param≤, num, back, ◌⊖◌, ◌⊗◌}
use Rattle.book.proofs.question.less.Goals.{Start}
use Rattle.book.proofs.question.less.Goals as goal

abbrev value : Start → Num
value c = param≤ {w = w32} {z = c.args.v} {k = 2500} c.ranges.v c.requires.0

abbrev tenfold : Start → Num
tenfold c = param≤ {w = w64} {z = c.args.internal} {k = 100} c.ranges.internal c.requires.1 ⊗ num (pos 10)

abbrev left : Start → Num
left c = back w64 (value c) tt ⊖ back w64 (tenfold c) tt

pub overflow_cast-result : goal.overflow_cast-result
overflow_cast-result c = fit (value c) tt

pub overflow_mul-result : goal.overflow_mul-result
overflow_mul-result c = fit (tenfold c) tt

pub overflow_sub-result : goal.overflow_sub-result
overflow_sub-result c = fit (left c) tt

pub overflow_cast-result-2 : goal.overflow_cast-result-2
overflow_cast-result-2 c = fit (back w64 (left c) tt) tt

pub returns : goal.returns
returns c = (back w32 (back w64 (left c) tt) tt).same
