-- `faces_in` meets its contract: after as many turns as `i`, the record holds the first so many faces.
use mathlib.Core.Path.{◌≡◌}
use Rattle.whole.specs.Lists.{first_of}
use Rattle.entry.specs.Flat.{faces_in}
use Rattle.job.specs.Carried.{no_face, most_faces}
use Rattle.sheet.proofs.flat.faces_in.Given as goal

abbrev pub invariant-loop-i : goal.invariant-loop-i
invariant-loop-i l = l.entry ≡ first_of no_face most_faces (faces_in l.i l.flat)
