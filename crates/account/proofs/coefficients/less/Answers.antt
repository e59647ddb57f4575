-- `coefficients::less` meets its contract: both numbers are small, so that every step fits.
use lib.IntN.{pos}
use mir.Syntax.{w32, w64}
use Rattle.whole.proofs.Size.{Num, fit, param≤, num, back, ◌⊖◌, ◌⊗◌}
use Rattle.account.proofs.coefficients.less.Goals.{Start}
use Rattle.account.proofs.coefficients.less.Goals as goal

module _ (c : Start) where
  abbrev value : Num
  value = param≤ {w = w32} {z = c.args.outside} {k = 1200} c.ranges.outside c.requires.0

  abbrev tenfold : Num
  tenfold = param≤ {w = w64} {z = c.args.internal} {k = 100} c.ranges.internal c.requires.1 ⊗ num (pos 10)

  abbrev left : Num
  left = back w64 value tt ⊖ back w64 tenfold tt

pub overflow_cast-result : goal.overflow_cast-result
overflow_cast-result c = fit (value c) tt

pub overflow_mul-result : goal.overflow_mul-result
overflow_mul-result c = fit (tenfold c) tt

pub overflow_sub-result : goal.overflow_sub-result
overflow_sub-result c = fit (left c) tt

pub overflow_cast-result-2 : goal.overflow_cast-result-2
overflow_cast-result-2 c = fit (back w64 (left c) tt) tt

pub returns : goal.returns
returns c = (back w32 (back w64 (left c) tt) tt).same
