-- `parts::until`: the first b from `at` on is the first from i on.
use native.Mathlib.Omega.{arith}
use Rattle.lines.proofs.Lines.{until-here, until-on, until_end}
use Rattle.slip.proofs.parts.until.Goals as goal

pub returns-then-s-i : goal.returns-then-s-i
returns-then-s-i c =
    let a = c.args in
    (omega (arith, until-here a.b a.s.now c.loop-i.i (omega arith) c.if-s-i.true), omega arith)

pub loop-i-preserved : goal.loop-i-preserved
loop-i-preserved c =
    let a = c.args in
    omega (arith, until-on a.b a.s.now c.loop-i.i (omega arith) c.if-s-i.false)

pub returns : goal.returns
returns c =
    let a = c.args in
    (omega (arith, until_end a.b a.s.now c.loop-i.i (omega arith)), omega arith)
