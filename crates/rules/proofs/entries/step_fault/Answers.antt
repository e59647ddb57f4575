-- `step_fault` meets its contract: each fault in its order.
use mathlib.Core.Path.{refl, ap, ap₂}
use mathlib.Core.Bool.{not}
use lib.IntN.{pos}
use lib.Signed.{lt_z}
use mir.Syntax.{w64}
use Rattle.whole.proofs.Size.{said, returned}
use Rattle.building.specs.Test.{beyond}
use Rattle.rules.specs.Faults.{height_fault}
use Rattle.rules.proofs.Rising.{found-or, said_or}
use Rattle.rules.proofs.entries.step_fault.Goals as goal

pub returns : goal.returns
returns c =
    let q = c.struct_told-1.given in
    let z = c.args.s.height in
    said_or (height_fault 1) 3 z q.0.1
    (found-or 3 (ap not (ap₂ lt_z (returned w64 c.args.highest c.ranges.highest.sfits).same
    (returned w64 z q.0.1).same))
    (found-or 3 (said (beyond (pos 1) (pos 1000)) c.args.s.factor c.beyond.ensures q.1.0.1) refl
    c.fault-factor.ensures)
    c.fault-rise.ensures)
    (c.height_fault.ensures 1)
