-- `put_number` meets its contract: past the end nothing is stored.
use mathlib.Core.Path.{sym}
use lib.Seq.{set_out}
use Rattle.sheet.proofs.flat.put_number.Goals as goal

pub returns-else-at-flat : goal.returns-else-at-flat
returns-else-at-flat c =
    let a = c.args in
    sym (set_out a.flat.now a.at a.z c.if-at-flat.false)
