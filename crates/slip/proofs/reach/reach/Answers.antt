-- `reach::reach`: line by line, what is called for behind them.
use Prim.Native.Nat.{◌<◌}
use mathlib.Core.Path.{ap, ◌∙◌}
use native.Mathlib.Omega.{arith}
use Rattle.entry.specs.Says.{size}
use Rattle.lines.specs.Held.{held}
use Rattle.slip.proofs.Walked.{reaches-start, reaches-count, reaches-entry, reaches_end}
use Rattle.slip.proofs.reach.reach.Goals.{After-line_at-x, At-loop-i, Start, then-left-eq0, else-left-eq0}
use Rattle.slip.proofs.reach.reach.Goals as goal

-- line i
module _ (c : After-line_at-x) where
  abbrev turn : At-loop-i
  turn = (goal.at.After-line_at-x c).At-loop-i

  abbrev start : Start
  start = (goal.at.At-loop-i turn).Start

  more : turn.loop-i._i < start.args.n
  more = c.loop-i-test.true

pub loop-i-init : goal.loop-i-init
loop-i-init c =
    let a = c.args in
    (reaches-start a.s.now a.n c.opens_tall-heights.result c.start-before.result c.opens_tall-heights.ensures
    c.start-before.ensures)

pub overflow_add-begun : goal.overflow_add-begun
overflow_add-begun c = omega (arith, c.loop-i.invariant.few, more (goal.at.overflow_add-begun c).After-line_at-x)

pub overflow_add-read : goal.overflow_add-read
overflow_add-read c = omega (arith, c.loop-i.invariant.fewer, more (goal.at.overflow_add-read c).After-line_at-x)

pub loop-i-preserved : goal.loop-i-preserved
loop-i-preserved c =
    let at_line_at_x = (goal.at.loop-i-preserved c).After-line_at-x in
    let s = c.args.s.now in
    let n = c.args.n in
    let i = c.loop-i._i in
    let x = c.line_at-x.ensures in
    let r = c.loop-i.invariant in
    elim c.if-left-eq0.branch [
      | then-left-eq0 w ↦
          rw (w.before-is, w.sec-is, w.left-is, w.begun-is, w.read-is, w.risen-is)
          (reaches-count s n i c.requires (more at_line_at_x) c.loop-i.next x r w.if-left-eq0.true
          w.section_at-sec.ensures (w.size_of-left.ensures ∙ ap size w.field_at.ensures))
      | else-left-eq0 w ↦
          rw (w.before-is, w.sec-is, w.left-is, w.begun-is, w.read-is, w.risen-is)
          (reaches-entry s n i c.requires (more at_line_at_x) c.loop-i.next x r w.if-left-eq0.false
          (w.learned-before.ensures r.carries r.judges r.rises)
          (w.rises-risen.ensures r.carries (held c.line_at-x.result) r.rises))
    ]

pub returns : goal.returns
returns c =
    let r = c.loop-i.invariant in
    (reaches_end r (omega (arith, c.loop-i-test.false)) c.called_for.ensures, omega (arith, r.fewer))
