-- `refused` meets its contract: a cleared list is that of a refusal.
use mathlib.Core.Path.{refl}
use Rattle.entry.specs.Flat.{flat_faces}
use Rattle.sheet.proofs.read.refused.Goals as goal

pub returns : goal.returns
unfolding flat_faces
returns c = (refl, c.clear.ensures)
