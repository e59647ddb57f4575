-- `new` meets its contract.
use Rattle.rose.proofs.new.Goals as goal

pub returns : goal.returns
returns c = rw c.no_bytes.ensures
