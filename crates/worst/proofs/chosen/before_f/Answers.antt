-- `chosen::before_f` meets its contract: no face before the one that is looked at is of zone F.
use mathlib.Core.Path.{sym, ◌∙◌}
use native.Mathlib.Omega.{arith}
use borrow.Author.Count.{below_more}
use Rattle.worst.proofs.chosen.before_f.Goals as goal

pub loop-i-init : goal.loop-i-init
loop-i-init c = λ k h. omega arith

pub zone_in-requires : goal.zone_in-requires
zone_in-requires c = let t = c.loop-i-test.true in omega (arith, c.requires.stand)

pub returns-then-zone_in-eq70 : goal.returns-then-zone_in-eq70
returns-then-zone_in-eq70 c =
    let l = c.loop-i in
    (l.auto.i-end, l.invariant, λ h. sym c.zone_in.ensures ∙ c.if-zone_in-eq70.true)

pub loop-i-preserved : goal.loop-i-preserved
loop-i-preserved c =
    let l = c.loop-i in
    below_more _ l.i l.invariant (λ e. c.if-zone_in-eq70.false (c.zone_in.ensures ∙ e))

pub returns : goal.returns
returns c =
    let l = c.loop-i in
    let t = c.loop-i-test.false in
    (omega arith, λ k h. l.invariant k (omega (arith, t)), λ h. omega arith)
