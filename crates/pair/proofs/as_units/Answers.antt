-- `as_units` meets its contract: so few newtons leave the product and the sum within 64 bits.
use borrow.Author.Rules.{rules}
use mathlib.Core.Path.{◌≡◌, sym, ◌∙◌}
use mathlib.Core.Bool.{true}
use native.Mathlib.Omega.{arith}
use lib.IntN.{pos}
use mir.Syntax.{w64}
use mir.Val.{SFits}
use Rattle.whole.specs.Newton.{newton}
use Rattle.whole.proofs.Size.{Num, num, nat, param≤, fit, back, ◌⊕◌, ◌⊗◌}
use Rattle.pair.specs.declared.Pair.{Pair}
use Rattle.pair.specs.Total.{most_in_units, within_newtons, as_units}
use Rattle.pair.proofs.Sizes.{Sized, within-is, newtons-small}
use Rattle.pair.proofs.as_units.Goals.{Start, Then-is_within}
use Rattle.pair.proofs.as_units.Goals as goal

fits : (a : Start) → SFits w64 a.args.p.newtons
fits a = search rules

module _ (c : Then-is_within) where
  abbrev p : Pair
  p = c.args.p

  can : within_newtons most_in_units p ≡ true
  can = sym c.is_within.ensures ∙ c.if-is_within.true

  sized : Sized most_in_units p
  sized = within-is most_in_units p can

  abbrev whole : Num
  whole = param≤ (fits (goal.at.Then-is_within c).Start) (newtons-small most_in_units p sized) ⊗ num (pos newton)

  abbrev rest : Num
  rest = nat w64 {n = p.remainder} 19_999_999_999 (omega (arith, sized.proper)) tt

  abbrev all : Num
  all = back w64 whole tt ⊕ rest

pub overflow_mul-result : goal.overflow_mul-result
overflow_mul-result c = fit (whole (goal.at.overflow_mul-result c).Then-is_within) tt

pub overflow_cast-result : goal.overflow_cast-result
overflow_cast-result c = omega (arith, (sized (goal.at.overflow_cast-result c).Then-is_within).proper)

pub overflow_add-result : goal.overflow_add-result
overflow_add-result c = fit (all (goal.at.overflow_add-result c).Then-is_within) tt

pub returns-then-is_within : goal.returns-then-is_within
unfolding as_units
returns-then-is_within c =
    let at_is_within = (goal.at.returns-then-is_within c).Then-is_within in
    rw (can at_is_within) (back w64 (all at_is_within) tt).same

pub returns : goal.returns
unfolding as_units
returns c = rw (sym c.is_within.ensures ∙ c.if-is_within.false)
