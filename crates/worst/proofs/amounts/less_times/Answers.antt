-- `amounts::less_times` meets its contract: each number is built as the code builds it.
-- the newtons and the remainder of the number
use mathlib.Core.Path.{◌≡◌, sym, ap, ◌∙◌, subst}
use Prim.Native.Nat.{◌≤◌}
use native.Mathlib.Omega.{arith}
use lib.IntN.{pos, nat_abs, ◌-ℤ◌, ◌*ℤ◌}
use mir.Syntax.{w64}
use Rattle.whole.specs.Newton as newton
use Rattle.whole.proofs.Newton.{remainder-small}
use Rattle.whole.proofs.Size.{Num, num≤, nat, back, fit, ◌⊖◌, ◌⊗◌}
use Rattle.worst.proofs.MovedOver.{newtons-below, less_as}
use Rattle.worst.proofs.amounts.less_times.Goals.{After-remainder-units, Start}
use Rattle.worst.proofs.amounts.less_times.Goals as goal

module _ (r : After-remainder-units) where
  abbrev s : Start
  s = (goal.at.After-remainder-units r).Start

  abbrev k : Num
  k = back w64 (num≤ s.args.k s.requires.1) tt

  abbrev z : Num
  z = back w64 (num≤ s.args.z s.requires.2) tt

  whole : r.newtons-newtons.result ≡ newton.newtons s.args.z
  whole = r.newtons-newtons.ensures ∙ (λ j. newton.newtons (z.same j))

  rest : r.remainder-units.result ≡ newton.remainder s.args.z
  rest = r.remainder-units.ensures ∙ (λ j. newton.remainder (z.same j))

  few : nat_abs r.newtons-newtons.result ≤ 1800000
  few =
      subst (λ n. nat_abs n ≤ 1800000) (sym whole)
      (newtons-below 1800000 s.args.z (omega (arith, s.requires.2)))

  small : r.remainder-units.result ≤ 20000000000
  small = omega (arith, rest, remainder-small s.args.z)

  abbrev newtons_times : Num
  newtons_times = k ⊗ back w64 (num≤ r.newtons-newtons.result few) tt

  abbrev newtons : Num
  newtons = back w64 (num≤ s.args.a.newtons s.requires.0.newtons) tt ⊖ back w64 newtons_times tt

  abbrev units_times : Num
  units_times = k ⊗ nat w64 20000000000 small tt

  abbrev units : Num
  units = back w64 (num≤ s.args.a.units s.requires.0.units) tt ⊖ back w64 units_times tt

pub overflow_cast-units : goal.overflow_cast-units
overflow_cast-units c = record { sfits = omega (arith, small c) }

pub overflow_mul-result : goal.overflow_mul-result
overflow_mul-result c = fit {w = w64} (newtons_times c) tt

pub overflow_sub-result : goal.overflow_sub-result
overflow_sub-result c = fit {w = w64} (newtons (goal.at.overflow_sub-result c).After-remainder-units) tt

pub overflow_mul-result-2 : goal.overflow_mul-result-2
overflow_mul-result-2 c = fit {w = w64} (units_times (goal.at.overflow_mul-result-2 c).After-remainder-units) tt

pub overflow_sub-result-2 : goal.overflow_sub-result-2
overflow_sub-result-2 c = fit {w = w64} (units (goal.at.overflow_sub-result-2 c).After-remainder-units) tt

pub returns : goal.returns
returns c =
    let at_remainder_units = (goal.at.returns c).After-remainder-units in
    let a = c.args in
    less_as a.a a.k a.z (back w64 (newtons at_remainder_units) tt) (back w64 (units at_remainder_units) tt)
    (ap (λ n. a.a.newtons -ℤ a.k *ℤ n) (whole at_remainder_units))
    (ap (λ n. a.a.units -ℤ a.k *ℤ pos n) (rest at_remainder_units)) tt tt
