-- `steps::force_of` meets its contract: the product is at most 3.3 × 10^17 in size.
use mir.Syntax.{w32, w64}
use Rattle.whole.proofs.Size.{Num, param≤, back, fit, ◌⊗◌}
use Rattle.account.proofs.steps.force_of.Goals.{Start}
use Rattle.account.proofs.steps.force_of.Goals as goal

module _ (c : Start) where
  abbrev net : Num
  net = param≤ {w = w32} {z = c.args.net} {k = 2200} c.ranges.net c.requires.0

  abbrev pressed : Num
  pressed =
      back w64 net tt ⊗ param≤ {w = w64} {z = c.args.pressure} {k = 1500000000} c.ranges.pressure c.requires.1

  abbrev force : Num
  force = back w64 pressed tt ⊗ param≤ {w = w64} {z = c.args.area} {k = 100000} c.ranges.area c.requires.2

pub overflow_cast-result : goal.overflow_cast-result
overflow_cast-result c = fit {w = w64} (net c) tt

pub overflow_mul-result : goal.overflow_mul-result
overflow_mul-result c = fit {w = w64} (pressed c) tt

pub overflow_mul-result-2 : goal.overflow_mul-result-2
overflow_mul-result-2 c = fit {w = w64} (force c) tt

pub returns : goal.returns
returns c = (back w64 (force c) tt).same
