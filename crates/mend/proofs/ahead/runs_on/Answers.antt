-- `ahead::runs_on` meets its contract: what is found from i on is what is found from j on.
use mathlib.Core.Path.{refl, sym, ◌∙◌}
use Rattle.mend.proofs.LooksAhead.{only_end, only-stop, only-fail, only-on}
use borrow.Author.Rules.{rules}
use Rattle.mend.proofs.ahead.runs_on.Goals as goal

pub loop-j-init : goal.loop-j-init
loop-j-init c = refl

pub returns-then-ends_run : goal.returns-then-ends_run
returns-then-ends_run c =
    let a = c.args in
    sym (c.loop-j.invariant
    ∙ only-stop a.digits a.s.now c.loop-j.j (search rules)
    (sym c.ends_run.ensures ∙ c.if-ends_run.true))

pub returns-then-not-in_run : goal.returns-then-not-in_run
returns-then-not-in_run c =
    let a = c.args in
    sym (c.loop-j.invariant
    ∙ only-fail a.digits a.s.now c.loop-j.j (search rules)
    (sym c.ends_run.ensures ∙ c.if-ends_run.false) (sym c.in_run.ensures ∙ c.if-not-in_run.true))

pub loop-j-preserved : goal.loop-j-preserved
loop-j-preserved c =
    let a = c.args in
    c.loop-j.invariant ∙ only-on a.digits a.s.now c.loop-j.j (search rules)
    (sym c.ends_run.ensures ∙ c.if-ends_run.false) (sym c.in_run.ensures ∙ c.if-not-in_run.false)

pub returns : goal.returns
returns c =
    let a = c.args in
    sym (c.loop-j.invariant ∙ only_end a.digits a.s.now c.loop-j.j (search rules))
