-- `limits::beyond`: the three numbers are read back as they are.
use mathlib.Core.Path.{ap₂}
use lib.Signed.{lt_z}
use mir.Syntax.{w64}
use Rattle.building.specs.Test.{beyond}
use Rattle.whole.proofs.Size.{returned}
use Rattle.building.proofs.Machine.{or_here, or_there}
use Rattle.building.proofs.limits.beyond.Goals as goal

pub returns-then-z-least : goal.returns-then-z-least
unfolding beyond
returns-then-z-least c =
    let a = c.args in
    or_here _ c.if-z-least.true
    (ap₂ lt_z (returned w64 a.z c.ranges.z.sfits).same (returned w64 a.least c.ranges.least.sfits).same)

pub returns-else-z-least : goal.returns-else-z-least
unfolding beyond
returns-else-z-least c =
    let a = c.args in
    let e = (returned w64 a.z c.ranges.z.sfits).same in
    or_there c.if-z-least.false (ap₂ lt_z e (returned w64 a.least c.ranges.least.sfits).same)
    (ap₂ lt_z (returned w64 a.greatest c.ranges.greatest.sfits).same e)
