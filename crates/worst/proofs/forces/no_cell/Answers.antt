-- `forces::no_cell` meets its contract: zeros 240 times.
use mathlib.Core.Path.{sym, ap, ◌∙◌}
use lib.ListN.{replicate}
use Rattle.whole.proofs.Lists.{first_of-none}
use Rattle.worst.specs.declared.FaceForces.{FaceForces}
use Rattle.worst.specs.PerFace.{no_face_forces}
use Rattle.worst.proofs.forces.no_cell.Goals as goal

pub returns : goal.returns
returns c =
    ap (λ (f : FaceForces). record { face = replicate 240 f }) c.no_forces-none.ensures
    ∙ ap (λ l. record { face = l }) (sym (first_of-none no_face_forces 240))
