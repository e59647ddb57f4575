-- `Table::new` meets its contract: nothing stands there yet.
use Rattle.worst.proofs.Table.{nothing-filled}
use Rattle.worst.proofs.outside.Table.new.Goals as goal

pub invariant_of-result : goal.invariant_of-result
invariant_of-result c = record { filled = nothing-filled c.args.building }
