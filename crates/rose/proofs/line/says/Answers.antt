-- `says` meets its contract.
use mathlib.Core.Path.{◌≡◌}
use Rattle.rose.specs.Pending.{pending_says}
use Rattle.rose.proofs.PendingLines.{pending-small}
use Rattle.rose.proofs.line.says.Goals as goal

pub returns : goal.returns
returns c =
    let h = c.args.p in
    let e : c.both_say.result ≡ pending_says h =
    rw (← c.first_says.ensures, ← c.says.ensures) c.both_say.ensures in
    (e, rw e (pending-small h))
