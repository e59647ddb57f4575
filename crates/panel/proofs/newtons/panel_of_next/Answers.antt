-- `panel_of_next`: below zero one more is no larger, and from 0 on it is one more in size.
use mathlib.Core.Path.{ap, ◌∙◌}
use Prim.Native.Nat.{ℕ, ◌+◌}
use native.Mathlib.Omega.{arith}
use lib.IntN.{pos}
use mir.Syntax.{w64}
use Rattle.whole.proofs.Size.{Num, num, param, back, tight, fit, bound, size, rise-small, lt_yes, lt_no, ◌⊕◌}
use Rattle.panel.specs.Bracket.{of_size, panel_of}
use Rattle.panel.proofs.Apart.{next-above}
use Rattle.panel.proofs.newtons.panel_of_next.Goals.{Start, Then-newtons-lt0}
use Rattle.panel.proofs.newtons.panel_of_next.Goals as goal

abbrev given : Start → Num
given a = param a.ranges.newtons

abbrev more : Then-newtons-lt0 → Num
more c =
    let n = given (goal.at.Then-newtons-lt0 c).Start in
    tight (n ⊕ num (pos 1)) 9_223_372_036_854_775_807
    (rise-small c.args.newtons (lt_yes n (num (pos 0)) c.if-newtons-lt0.true) n.small)

pub overflow_add-newtons : goal.overflow_add-newtons
overflow_add-newtons c = fit (more c) tt

pub returns-then-newtons-lt0 : goal.returns-then-newtons-lt0
returns-then-newtons-lt0 c =
    let at_newtons_lt0 = (goal.at.returns-then-newtons-lt0 c).Then-newtons-lt0 in
    c.panel_of.ensures ∙ ap panel_of (back w64 (more at_newtons_lt0) tt).same

pub overflow_add-magnitude : goal.overflow_add-magnitude
overflow_add-magnitude c = let n = given (goal.at.overflow_add-magnitude c).Start in omega
    (arith, c.magnitude.ensures, bound n)

pub returns : goal.returns
returns c =
    let n = given (goal.at.returns c).Start in
    c.of_size.ensures
    ∙ ap (λ (s : ℕ). of_size (s + 1)) (c.magnitude.ensures ∙ size n)
    ∙ next-above c.args.newtons (lt_no n (num (pos 0)) c.if-newtons-lt0.false)
