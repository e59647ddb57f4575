-- `end_of` meets its contract: the first space or LF from `at` on is the first from i on.
use mathlib.Core.Path.{sym, ◌∙◌}
use native.Mathlib.Omega.{arith}
use Rattle.lines.proofs.Lines.{end-here, end_on, until_end}
use Rattle.lines.proofs.end_of.Goals as goal

pub returns-then-ends : goal.returns-then-ends
returns-then-ends c =
    let stop = sym c.ends.ensures ∙ c.if-ends.true in
    (omega (arith, end-here c.args.s.now c.loop-i.i c.loop-i-test.true stop), c.loop-i.auto.i)

pub loop-i-preserved : goal.loop-i-preserved
loop-i-preserved c =
    let on = sym c.ends.ensures ∙ c.if-ends.false in
    omega (arith, end_on c.args.s.now c.loop-i.i c.loop-i-test.true on)

pub returns : goal.returns
returns c =
    let s = c.args.s.now in
    let here = until_end 32 s c.loop-i.i c.loop-i-test.false in
    (grind (arith, here, until_end 32 s c.args.at, c.loop-i.invariant, c.max.ensures), omega (arith, c.max.ensures))
