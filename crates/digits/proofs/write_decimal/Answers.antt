-- `write_decimal` meets its contract: 20 bytes hold every number, so `emit` is handed the whole text.
use mir.Syntax.{w64}
use mir.ValLaws.{to_z-of_z}
use Rattle.page.proofs.Put.{emitted}
use Rattle.whole.proofs.Digits.{decimal-length}
use Rattle.digits.proofs.write_decimal.Goals as goal

pub returns : goal.returns
returns c =
    emitted (rw (to_z-of_z w64 c.args.z c.ranges.z) at c.put_decimal-n.ensures)
    (decimal-length c.args.z c.ranges.z.sfits) c.args.buf.now c.emit.ensures
