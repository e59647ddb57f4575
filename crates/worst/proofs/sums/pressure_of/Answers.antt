-- `sums::pressure_of` meets its contract: a speed squared is at most a million.
-- the wind's speed
use mathlib.Core.Path.{sym, ap, ◌∙◌, subst}
use lib.IntN.{ℤ, pos}
use lib.Signed.{◌≤ℤ◌}
use mir.Syntax.{w64}
use Rattle.whole.proofs.Size.{Num, num≤, back, bound, fit, ◌⊗◌}
use Rattle.worst.specs.Speed.{speed_at}
use Rattle.worst.proofs.ReadBack.{read_back}
use Rattle.worst.proofs.Ranges.{speed-small}
use Rattle.worst.proofs.sums.pressure_of.Goals.{After-speed_at-speed, Start}
use Rattle.worst.proofs.sums.pressure_of.Goals as goal

abbrev wind : Start → Num
wind a = back w64 (num≤ a.args.w.speed a.requires.1.to) tt

-- the speed at the factor
module _ (c : After-speed_at-speed) where
  abbrev a : Start
  a = (goal.at.After-speed_at-speed c).Start

  abbrev speed : Num
  speed =
      read_back c.speed_at-speed.result (speed_at a.args.factor a.args.w.speed)
      (c.speed_at-speed.ensures ∙ ap (speed_at a.args.factor) (wind a).same)
      (speed-small a.args.factor a.args.w.speed a.requires.2 a.requires.1.to) tt

  abbrev pressure : Num
  pressure = back w64 (num≤ a.args.b.density a.requires.0) tt ⊗ back w64 (speed ⊗ speed) tt

pub speed_at-speed-requires : goal.speed_at-speed-requires
speed_at-speed-requires c =
    let at_start = (goal.at.speed_at-speed-requires c).Start in
    (c.requires.2, subst (λ (z : ℤ). pos 0 ≤ℤ z) (sym (wind at_start).same) c.requires.1.from, bound (wind at_start))

pub overflow_mul-result : goal.overflow_mul-result
overflow_mul-result c = fit {w = w64} (speed c ⊗ speed c) tt

pub overflow_mul-result-2 : goal.overflow_mul-result-2
overflow_mul-result-2 c = fit {w = w64} (pressure (goal.at.overflow_mul-result-2 c).After-speed_at-speed) tt

pub returns : goal.returns
returns c = (back w64 (pressure (goal.at.returns c).After-speed_at-speed) tt).same
