-- `forces::face_forces` meets its contract: a face that takes part has the forces at its coefficients, another none.
-- a face that takes part
use mathlib.Core.Path.{◌≡◌, sym, ◌∙◌, subst}
use mathlib.Core.Bool.{true}
use Prim.Native.Nat.{◌≤◌}
use lib.IntN.{nat_abs}
use mir.Syntax.{w64}
use Rattle.whole.proofs.Size.{Num, num≤, back, bound}
use Rattle.worst.specs.declared.forces.Coefficients.{Coefficients}
use Rattle.worst.specs.Speed.{speed_at}
use Rattle.worst.specs.Forces.{acts, pressure}
use Rattle.worst.specs.AtPressure.{coefficients_at, forces_with}
use Rattle.worst.proofs.ReadBack.{read_back}
use Rattle.worst.proofs.Ranges.{pressure-small}
use Rattle.worst.proofs.forces.face_forces.Goals.{After-asked-o, After-pressure_of-p, Start, Then-takes_part}
use Rattle.worst.proofs.forces.face_forces.Goals as goal

module _ (c : After-pressure_of-p) where
  abbrev o : After-asked-o
  o = (goal.at.After-pressure_of-p c).After-asked-o

  abbrev t : Then-takes_part
  t = (goal.at.After-asked-o o).Then-takes_part

  abbrev a : Start
  a = (goal.at.Then-takes_part t).Start

  acting : acts a.args.f a.args.w.direction ≡ true
  acting = sym t.takes_part.ensures ∙ t.if-takes_part.true

  coefficients : o.asked-o.result ≡ coefficients_at a.args.d.year a.args.d.building a.args.w a.args.f
  coefficients = o.asked-o.ensures

  abbrev internal : Num
  internal = back w64 (num≤ a.args.internal a.requires.2) tt

  abbrev pressed : Num
  pressed =
      let met = a.requires.0 in
      read_back c.pressure_of-p.result
      (pressure a.args.d.building.density (speed_at a.args.factor a.args.w.speed))
      c.pressure_of-p.ensures
      (pressure-small a.args.d.building.density a.args.factor a.args.w.speed met.dense a.requires.1
      met.slow.to) tt

pub forces_at-requires : goal.forces_at-requires
forces_at-requires c =
    let e = sym (coefficients c) in (
      c.requires.0.face,
      subst (λ (k : Coefficients). nat_abs k.first ≤ 1200) e c.requires.3,
      subst (λ (k : Coefficients). nat_abs k.last ≤ 1200) e c.requires.4,
      bound (internal c),
      bound (pressed c),
    )

pub returns-then-takes_part : goal.returns-then-takes_part
returns-then-takes_part c =
    let at_pressure_of_p = (goal.at.returns-then-takes_part c).After-pressure_of-p in
    rw (acting at_pressure_of_p)
    (c.forces_at.ensures
    ∙ (λ j. forces_with c.args.f (coefficients at_pressure_of_p j) ((internal at_pressure_of_p).same j)
    ((pressed at_pressure_of_p).same j)))

pub returns : goal.returns
returns c =
    rw (sym c.takes_part.ensures ∙ c.if-takes_part.false) c.no_forces.ensures
