-- `outside::takes_part` meets its contract: the two tests in their order.
use native.Mathlib.Omega.{arith}
use Rattle.building.proofs.Machine.{same_bits, bits-same, bits-other}
use Rattle.entry.specs.Says.{both}
use Rattle.worst.proofs.outside.takes_part.Goals as goal

pub returns-then-f-eq-BOTH : goal.returns-then-f-eq-BOTH
returns-then-f-eq-BOTH c =
    rw
    (bits-same both c.args.f.mark (omega arith) c.struct_told-1.given.1.0.1 c.if-f-eq-BOTH.true)

pub returns : goal.returns
returns c =
    let a = c.args in
    let mark = c.struct_told-2-1.given.1.0.1 in
    rw (bits-other both a.f.mark (omega arith) mark c.if-f-eq-BOTH.false)
    (same_bits a.w.direction a.f.mark c.struct_told-3-1.given.0.1 mark)
