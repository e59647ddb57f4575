-- `line::raised`: the sum fits and is not negative.
use mathlib.Core.Path.{ap}
use lib.IntN.{pos, nat_abs}
use mir.Syntax.{w16, w64}
use Rattle.whole.proofs.Size.{Num, fit, param≤, num, back, unsigned, ◌⊕◌}
use Rattle.book.proofs.Raised.{raised-natural}
use Rattle.book.proofs.line.raised.Goals.{Start}
use Rattle.book.proofs.line.raised.Goals as goal

abbrev it : Start → Num
it c = param≤ {w = w16} {z = c.args.v} {k = 250} c.ranges.v c.requires

abbrev sum : Start → Num
sum c = back w64 (it c) tt ⊕ num (pos 250)

pub overflow_cast-result : goal.overflow_cast-result
overflow_cast-result c = fit (it c) tt

pub overflow_add-result : goal.overflow_add-result
overflow_add-result c = fit (sum c) tt

pub overflow_cast-result-2 : goal.overflow_cast-result-2
overflow_cast-result-2 c = unsigned (back w64 (sum c) tt) (raised-natural c.args.v 250 c.requires) tt

pub returns : goal.returns
returns c = ap nat_abs (back w64 (sum c) tt).same
