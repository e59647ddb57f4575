-- `sum` meets its contract: newtons and remainders are added each by themselves.
use borrow.Author.Rules.{rules}
use mathlib.Core.Path.{◌≡◌, sym, ap, ◌∙◌}
use mathlib.Core.Bool.{true, ◌&&◌}
use Prim.Native.Nat.{◌+◌}
use native.Mathlib.Omega.{arith}
use lib.IntN.{ℤ}
use mir.Syntax.{w64}
use mir.Val.{SFits}
use Rattle.whole.proofs.Size.{Num, param≤, fit, back, bound, ◌⊕◌}
use Rattle.pair.specs.declared.Pair.{Pair}
use Rattle.pair.specs.Total.{pair_of, addable}
use Rattle.pair.proofs.Units.{worth}
use Rattle.pair.proofs.Sums.{worth-sum, BothAddable, both-addable, both-added, not-added}
use Rattle.pair.proofs.sum.Goals.{Start, Then-both_addable}
use Rattle.pair.proofs.sum.Goals as goal

fits : (a : Start) → SFits w64 a.args.p.newtons × SFits w64 a.args.q.newtons
fits a = (search rules, search rules)

module _ (c : Then-both_addable) where
  abbrev p : Pair
  p = c.args.p

  abbrev q : Pair
  q = c.args.q

  can : (addable p && addable q) ≡ true
  can = sym c.both_addable.ensures ∙ c.if-both_addable.true

  both : BothAddable p q
  both = both-addable p q can

  abbrev first : Num
  first = param≤ (fits (goal.at.Then-both_addable c).Start).0 both.first-newtons

  abbrev second : Num
  second = param≤ (fits (goal.at.Then-both_addable c).Start).1 both.second-newtons

  abbrev all : Num
  all = first ⊕ second

pub overflow_add-p : goal.overflow_add-p
overflow_add-p c = fit (all (goal.at.overflow_add-p c).Then-both_addable) tt

pub overflow_add-p-then-both_addable : goal.overflow_add-p-then-both_addable
overflow_add-p-then-both_addable c =
    let b = both (goal.at.overflow_add-p-then-both_addable c).Then-both_addable in
    omega (arith, b.first.proper, b.second.proper)

pub carried-requires : goal.carried-requires
carried-requires c =
    let at_both_addable = (goal.at.carried-requires c).Then-both_addable in
    let b = both at_both_addable in
    (omega (arith, bound (back w64 (all at_both_addable) tt)), omega (arith, b.first.proper, b.second.proper))

pub returns-then-both_addable : goal.returns-then-both_addable
returns-then-both_addable c =
    let at_both_addable = (goal.at.returns-then-both_addable c).Then-both_addable in
    let p = p at_both_addable in
    let q = q at_both_addable in
    c.carried.ensures
    ∙ ap (λ (n : ℤ). pair_of (worth n (p.remainder + q.remainder))) (back w64 (all at_both_addable) tt).same
    ∙ ap pair_of (worth-sum p.newtons q.newtons p.remainder q.remainder)
    ∙ both-added p q (can at_both_addable)

pub returns : goal.returns
returns c =
    c.of_units.ensures
    ∙ not-added c.args.p c.args.q (sym c.both_addable.ensures ∙ c.if-both_addable.false)
