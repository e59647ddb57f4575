-- `few::with_face` meets its contract: a face that takes part is added at its pressure number, and another leaves
-- all as it is.
-- a face that takes part
use mathlib.Core.Path.{◌≡◌, sym, ap, ◌∙◌, subst}
use mathlib.Core.Bool.{true}
use Prim.Native.Nat.{◌+◌}
use native.Mathlib.Omega.{arith}
use Rattle.whole.proofs.Size.{Num, bound}
use Rattle.worst.specs.Speed.{speed_at}
use Rattle.worst.specs.Forces.{acts, pressure}
use Rattle.worst.specs.Few.{few_axes}
use Rattle.worst.specs.Engine.{with_pressure}
use Rattle.worst.specs.Table.{outside_at}
use Rattle.worst.specs.Small.{OutsideSmall}
use Rattle.worst.proofs.ReadBack.{read_back}
use Rattle.worst.proofs.Ranges.{pressure-small}
use Rattle.worst.proofs.SumsGrow.{few-more}
use Rattle.worst.proofs.Added.{face-acts, face-aside}
use Rattle.worst.proofs.few.with_face.Goals.{After-found-o, After-pressure_of-p, Start, Then-takes_part}
use Rattle.worst.proofs.few.with_face.Goals as goal

module _ (c : After-pressure_of-p) where
  abbrev o : After-found-o
  o = (goal.at.After-pressure_of-p c).After-found-o

  abbrev t : Then-takes_part
  t = (goal.at.After-found-o o).Then-takes_part

  abbrev a : Start
  a = (goal.at.Then-takes_part t).Start

  -- what was found is of the building
  found : c.found-o.result ≡ outside_at a.args.b a.args.w.direction a.args.f.zone
  found = c.found-o.ensures.0 ∙ ap (λ b. outside_at b a.args.w.direction a.args.f.zone) a.requires.3

  acting : acts a.args.f a.args.w.direction ≡ true
  acting = sym t.takes_part.ensures ∙ t.if-takes_part.true

  abbrev pressed : Num
  pressed =
      let met = a.requires.1 in
      read_back c.pressure_of-p.result
      (pressure a.args.b.density (speed_at a.args.factor a.args.w.speed)) c.pressure_of-p.ensures
      (pressure-small a.args.b.density a.args.factor a.args.w.speed met.dense a.requires.2
      met.slow.to) tt

pub with_pressure-requires : goal.with_pressure-requires
with_pressure-requires c =
    let met = c.requires.1 in
    (c.requires.0, met.face, subst OutsideSmall (sym (found c)) met.outside, bound (pressed c))

pub returns-then-takes_part : goal.returns-then-takes_part
returns-then-takes_part c =
    let at_pressure_of_p = (goal.at.returns-then-takes_part c).After-pressure_of-p in
    let s = c.args in (
      c.with_pressure.ensures.0
          ∙ (λ j. with_pressure s.f (found at_pressure_of_p j) ((pressed at_pressure_of_p).same j) (few_axes s.sums))
          ∙ face-acts s.b s.w s.factor s.f (few_axes s.sums) (acting at_pressure_of_p),
      c.with_pressure.ensures.1,
      c.found-o.ensures.1 ∙ c.requires.3,
    )

pub returns : goal.returns
returns c =
    let s = c.args in
    let aside = sym c.takes_part.ensures ∙ c.if-takes_part.false in (
      face-aside s.b s.w s.factor s.f (few_axes s.sums) aside,
      λ n h. few-more n (n + 1) s.sums (omega arith) h,
      c.requires.3,
    )
