-- `slot_of` meets its contract.
use mathlib.Core.Path.{ap}
use Rattle.lines.specs.Held.{slot}
use Rattle.lines.proofs.slot_of.Goals as goal

pub returns : goal.returns
returns c = ap slot c.field_of-f.ensures
