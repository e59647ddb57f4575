-- `keep::both_kept` meets its contract: a call for each side.
use Rattle.worst.proofs.Kept.{either}
use Rattle.plain.proofs.keep.both_kept.Goals as goal

pub returns : goal.returns
returns c = either _ c.kept-greatest.ensures c.kept-least.ensures
