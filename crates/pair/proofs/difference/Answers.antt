-- `difference` meets its contract: newtons and remainders are taken away each by themselves, and one newton is lent.
use borrow.Author.Rules.{rules}
use mathlib.Core.Path.{◌≡◌, sym, ap, ◌∙◌}
use mathlib.Core.Bool.{true, ◌&&◌}
use Prim.Native.Nat.{◌+◌, ◌-◌}
use native.Mathlib.Omega.{arith}
use lib.IntN.{ℤ, pos}
use mir.Syntax.{w64}
use mir.Val.{SFits}
use Rattle.whole.specs.Newton.{newton}
use Rattle.whole.proofs.Size.{Num, num, param≤, fit, back, bound, ◌⊖◌}
use Rattle.pair.specs.declared.Pair.{Pair}
use Rattle.pair.specs.Total.{pair_of, addable}
use Rattle.pair.proofs.Units.{worth}
use Rattle.pair.proofs.Sums.{worth-difference, BothAddable, both-addable, both-taken, not_taken}
use Rattle.pair.proofs.difference.Goals.{Start, Then-both_addable}
use Rattle.pair.proofs.difference.Goals as goal

fits : (a : Start) → SFits w64 a.args.p.newtons × SFits w64 a.args.q.newtons
fits a = (search rules, search rules)

module _ (c : Then-both_addable) where
  abbrev p : Pair
  p = c.args.p

  abbrev q : Pair
  q = c.args.q

  can : (addable p && addable q) ≡ true
  can = sym c.both_addable.ensures ∙ c.if-both_addable.true

  both : BothAddable p q
  both = both-addable p q can

  abbrev first : Num
  first = param≤ (fits (goal.at.Then-both_addable c).Start).0 both.first-newtons

  abbrev second : Num
  second = param≤ (fits (goal.at.Then-both_addable c).Start).1 both.second-newtons

  abbrev apart : Num
  apart = first ⊖ second

  abbrev all : Num
  all = back w64 apart tt ⊖ num (pos 1)

pub overflow_sub-p : goal.overflow_sub-p
overflow_sub-p c = fit (apart (goal.at.overflow_sub-p c).Then-both_addable) tt

pub overflow_sub-p-then-both_addable : goal.overflow_sub-p-then-both_addable
overflow_sub-p-then-both_addable c = fit (all (goal.at.overflow_sub-p-then-both_addable c).Then-both_addable) tt

pub overflow_add-p : goal.overflow_add-p
overflow_add-p c = let b = both (goal.at.overflow_add-p c).Then-both_addable in omega (arith, b.first.proper)

pub overflow_sub-p-then-both_addable-2 : goal.overflow_sub-p-then-both_addable-2
overflow_sub-p-then-both_addable-2 c = let b = both (goal.at.overflow_sub-p-then-both_addable-2 c).Then-both_addable
    in omega (arith, b.second.proper)

pub carried-requires : goal.carried-requires
carried-requires c =
    let at_both_addable = (goal.at.carried-requires c).Then-both_addable in
    (omega (arith, bound (back w64 (all at_both_addable) tt)), omega (arith, (both at_both_addable).first.proper))

pub returns-then-both_addable : goal.returns-then-both_addable
returns-then-both_addable c =
    let at_both_addable = (goal.at.returns-then-both_addable c).Then-both_addable in
    let p = p at_both_addable in
    let q = q at_both_addable in
    c.carried.ensures
    ∙ ap (λ (n : ℤ). pair_of (worth n (p.remainder + newton - q.remainder))) (back w64 (all at_both_addable) tt).same
    ∙ ap pair_of
    (worth-difference p.newtons q.newtons p.remainder q.remainder (omega (arith, (both at_both_addable).second.proper)))
    ∙ both-taken p q (can at_both_addable)

pub returns : goal.returns
returns c =
    c.of_units.ensures
    ∙ not_taken c.args.p c.args.q (sym c.both_addable.ensures ∙ c.if-both_addable.false)
