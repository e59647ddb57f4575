-- `chosen::one_of_two` meets its contract: a face that takes part goes by its coefficients, and another has weight 0.
-- a face that takes part
use mathlib.Core.Path.{◌≡◌, sym, ap, ◌∙◌, subst}
use mathlib.Core.Bool.{true}
use mir.Syntax.{w64}
use Rattle.whole.proofs.Size.{Num, back, fit, bound, ◌⊗◌}
use Rattle.worst.specs.Speed.{speed_at}
use Rattle.worst.specs.Forces.{acts, pressure, area}
use Rattle.worst.specs.Table.{outside_at}
use Rattle.worst.specs.Engine.{pick}
use Rattle.worst.specs.Small.{OutsideSmall}
use Rattle.worst.proofs.ReadBack.{read_back}
use Rattle.worst.proofs.Ranges.{pressure-small, area_small}
use Rattle.worst.proofs.OneFace.{no-pick}
use Rattle.worst.proofs.chosen.one_of_two.Goals.{After-area_on, After-pressure_of-p, Start, Then-takes_part}
use Rattle.worst.proofs.chosen.one_of_two.Goals as goal

module _ (c : After-area_on) where
  abbrev p : After-pressure_of-p
  p = (goal.at.After-area_on c).After-pressure_of-p

  abbrev t : Then-takes_part
  t = (goal.at.After-pressure_of-p p).Then-takes_part

  abbrev a : Start
  a = (goal.at.Then-takes_part t).Start

  acting : acts a.args.f a.args.under.wind.direction ≡ true
  acting = sym t.takes_part.ensures ∙ t.if-takes_part.true

  coefficients : a.args.under.outside
      ≡ outside_at a.args.b a.args.under.wind.direction a.args.f.zone
  coefficients =
      ap (λ u. u.outside) a.requires.3
      ∙ ap (outside_at a.args.b a.args.under.wind.direction) (sym a.requires.2)

  abbrev weighed : Num
  weighed =
      let met = a.requires.0 in
      read_back p.pressure_of-p.result
      (pressure a.args.b.density (speed_at a.args.factor a.args.under.wind.speed))
      p.pressure_of-p.ensures
      (pressure-small a.args.b.density a.args.factor a.args.under.wind.speed met.dense a.requires.1
      met.slow.to) tt
      ⊗ read_back c.area_on.result (area a.args.axis a.args.f) c.area_on.ensures
      (area_small a.args.axis a.args.f a.requires.0.face) tt

pub overflow_mul-p : goal.overflow_mul-p
overflow_mul-p c = fit {w = w64} (weighed c) tt

pub picked-requires : goal.picked-requires
picked-requires c =
    (subst OutsideSmall (sym (coefficients c)) c.requires.0.outside, bound (back w64 (weighed c) tt))

pub returns-then-takes_part : goal.returns-then-takes_part
returns-then-takes_part c =
    let at_area_on = (goal.at.returns-then-takes_part c).After-area_on in
    rw (acting at_area_on)
    (c.picked.ensures ∙ (λ j. pick c.args.side (coefficients at_area_on j) ((back w64 (weighed at_area_on) tt).same j)))

pub returns : goal.returns
returns c =
    let s = c.args in
    rw (sym c.takes_part.ensures ∙ c.if-takes_part.false)
    (sym (no-pick s.side (outside_at s.b s.under.wind.direction s.f.zone)))
