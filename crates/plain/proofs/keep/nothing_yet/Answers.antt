-- `keep::nothing_yet` meets its contract: it is computed, six times.
use mathlib.Core.Path.{refl}
use Rattle.worst.specs.Shown.{padded, shown}
use Rattle.worst.proofs.Kept.{either, every-axis}
use Rattle.plain.proofs.keep.nothing_yet.Goals as goal

pub returns : goal.returns
unfolding shown padded
returns c = every-axis _ (either _ refl refl) (either _ refl refl) (either _ refl refl)
