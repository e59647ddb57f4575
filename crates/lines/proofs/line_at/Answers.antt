-- `line_at` meets its contract: the line that comes of the fields passed and those from `next` on is the whole line.
use mathlib.Core.Path.{sym, ◌∙◌}
use Rattle.lines.proofs.Filled.{on-start, on-open, on-ended, on-more, on-full}
use borrow.Author.Rules.{rules}
use Rattle.lines.proofs.line_at.Goals as goal

pub loop-k-init : goal.loop-k-init
loop-k-init c = let a = c.args in on-start a.s.now a.at

pub returns-then-s-e : goal.returns-then-s-e
returns-then-s-e c =
    let s = c.args.s.now in
    c.no_line.ensures
    ∙ sym
    (c.loop-k.invariant ∙ on-open s c.loop-k.next c.end_of-e.result c.end_of-e.ensures.0 c.loop-k.k
    c.loop-k.fields c.if-s-e.true)

pub returns-then-s-e-eq10 : goal.returns-then-s-e-eq10
returns-then-s-e-eq10 c =
    let s = c.args.s.now in
    sym
    (c.loop-k.invariant ∙ on-ended s c.loop-k.next c.end_of-e.result c.end_of-e.ensures.0 c.loop-k.k
    c.loop-k.fields c.if-s-e.false c.slot_of-f.result c.slot_of-f.ensures (search rules)
    c.if-s-e-eq10.true)

pub loop-k-preserved : goal.loop-k-preserved
loop-k-preserved c =
    let s = c.args.s.now in
    c.loop-k.invariant
    ∙ on-more s c.loop-k.next c.end_of-e.result c.end_of-e.ensures.0 c.loop-k.k c.loop-k.fields
    c.if-s-e.false c.slot_of-f.result c.slot_of-f.ensures c.if-s-e-eq10.false

pub returns : goal.returns
returns c =
    c.no_line-2.ensures
    ∙ sym (c.loop-k.invariant ∙ on-full c.loop-k.k c.loop-k.fields c.loop-k.next _ c.loop-k-test.false)
