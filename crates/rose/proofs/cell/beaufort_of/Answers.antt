-- `beaufort_of` meets its contract: the limits passed are those that the speed is exceeded.
use native.Mathlib.Omega.{arith}
use Rattle.rose.specs.Observation.{top_speeds, beaufort}
use Rattle.rose.proofs.Observation.{exceeded-here, exceeded-on, exceeded-end}
use Rattle.rose.proofs.cell.beaufort_of.Goals as goal

pub loop-i-init : goal.loop-i-init
unfolding beaufort
loop-i-init c = omega arith

pub returns-then-speed-top : goal.returns-then-speed-top
unfolding top_speeds
returns-then-speed-top c =
    omega (arith, exceeded-here c.args.speed top_speeds c.loop-i.i (omega arith) c.if-speed-top.true)

pub loop-i-preserved : goal.loop-i-preserved
unfolding top_speeds
loop-i-preserved c =
    omega (arith, exceeded-on c.args.speed top_speeds c.loop-i.i (omega arith) c.if-speed-top.false)

pub returns : goal.returns
unfolding top_speeds
returns c =
    omega (arith, exceeded-end c.args.speed top_speeds c.loop-i.i (omega arith))
