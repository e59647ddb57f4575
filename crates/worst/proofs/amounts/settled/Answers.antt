-- `amounts::settled` meets its contract: the newtons in its units move over, and what remains is the remainder.
-- the newtons in the units
use mathlib.Core.Path.{◌≡◌, sym, ap₂, ◌∙◌, subst}
use Prim.Native.Nat.{◌≤◌}
use native.Mathlib.Omega.{arith}
use lib.IntN.{nat_abs, ◌+ℤ◌}
use mir.Syntax.{w64}
use Rattle.whole.specs.Newton as newton
use Rattle.whole.proofs.Size.{Num, num≤, back, fit, ◌⊕◌}
use Rattle.pair.proofs.Units.{pair}
use Rattle.worst.proofs.MovedOver.{newtons-below, settled_is}
use Rattle.worst.proofs.amounts.settled.Goals.{After-newtons-newtons, Start}
use Rattle.worst.proofs.amounts.settled.Goals as goal

module _ (c : After-newtons-newtons) where
  abbrev s : Start
  s = (goal.at.After-newtons-newtons c).Start

  abbrev units : Num
  units = back w64 (num≤ s.args.a.units s.requires.units) tt

  given : c.newtons-newtons.result ≡ newton.newtons s.args.a.units
  given = c.newtons-newtons.ensures ∙ (λ j. newton.newtons (units.same j))

  few : nat_abs c.newtons-newtons.result ≤ 250000000
  few =
      subst (λ z. nat_abs z ≤ 250000000) (sym given)
      (newtons-below 250000000 s.args.a.units (omega (arith, s.requires.units)))

  abbrev newtons : Num
  newtons =
      back w64 (num≤ s.args.a.newtons s.requires.newtons) tt ⊕ back w64 (num≤ c.newtons-newtons.result few) tt

pub overflow_add-result : goal.overflow_add-result
overflow_add-result c = fit {w = w64} (newtons (goal.at.overflow_add-result c).After-newtons-newtons) tt

pub returns : goal.returns
returns c =
    let at_newtons_newtons = (goal.at.returns c).After-newtons-newtons in
    let a = c.args.a in
    let remains : c.remainder-remainder.result ≡ newton.remainder a.units =
    c.remainder-remainder.ensures ∙ (λ j. newton.remainder ((units at_newtons_newtons).same j)) in
    ap₂ pair ((back w64 (newtons at_newtons_newtons) tt).same ∙ (λ j. a.newtons +ℤ given at_newtons_newtons j)) remains
    ∙ settled_is a
