-- `take` meets its contract: what the rose so far comes to with the rest of the part stays the same.
use mathlib.Core.Path.{refl, ap, sym, ◌∙◌}
use borrow.Author.Tests.{ne_eqb}
use Rattle.rose.specs.declared.Rose.{Rose}
use Rattle.rose.specs.Taken.{part_taken}
use Rattle.rose.proofs.Taken.{open_is, part-closed}
use Rattle.rose.proofs.Steps.{part-done, byte-pending, line_refused, line-counted}
use borrow.Author.Rules.{rules}
use Rattle.rose.proofs.take.Goals as goal

pub returns-then-rose-ne0 : goal.returns-then-rose-ne0
returns-then-rose-ne0 c =
    let a = c.args in
    sym (part-closed a.rose a.part.now (ne_eqb _ _ c.if-rose-ne0.true))

pub loop-b-init : goal.loop-b-init
loop-b-init c = refl

pub returns-then-fault-ne0 : goal.returns-then-fault-ne0
returns-then-fault-ne0 c =
    let g = c.loop-b in
    let a = c.args in
    c.refusal.ensures
    ∙ sym (ap (λ (r : Rose). part_taken r a.part.now) (open_is a.rose c.if-rose-ne0.false)
    ∙ g.invariant
    ∙ line_refused a.rose.verdict g.accepted g.cell g.pending a.part.now g.b-index
    (search rules) c.if-b-ne10.false c.says-said.result c.says-said.ensures.0
    c.fault_after-fault.result c.fault_after-fault.ensures c.if-fault-ne0.true)

pub loop-b-preserved : goal.loop-b-preserved
loop-b-preserved c =
    let g = c.loop-b in
    let a = c.args in
    g.invariant
    ∙ line-counted a.rose.verdict g.accepted g.cell g.pending a.part.now g.b-index
    (search rules) c.if-b-ne10.false c.says-said.result c.says-said.ensures.0
    c.fault_after-fault.result c.fault_after-fault.ensures c.if-fault-ne0.false
    c.cell_in-k.result c.cell_in-k.ensures
    c.one_more.result c.one_more.ensures
    c.one_more-accepted.result c.one_more-accepted.ensures c.no_bytes-pending.result c.no_bytes-pending.ensures

pub loop-b-preserved-then-b-ne10 : goal.loop-b-preserved-then-b-ne10
loop-b-preserved-then-b-ne10 c =
    let g = c.loop-b in
    let a = c.args in
    g.invariant
    ∙ byte-pending a.rose.verdict g.accepted g.cell g.pending a.part.now g.b-index
    (search rules) c.if-b-ne10.true c.with_byte-pending.result c.with_byte-pending.ensures

pub returns : goal.returns
returns c =
    let g = c.loop-b in
    let a = c.args in
    sym (ap (λ (r : Rose). part_taken r a.part.now) (open_is a.rose c.if-rose-ne0.false)
    ∙ g.invariant
    ∙ part-done _ a.part.now g.b-index c.loop-b-test.false)
