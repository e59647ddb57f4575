-- `share` meets its contract: after as many turns as `face`, the list holds the first so many entries.
use mathlib.Core.Path.{◌≡◌}
use Rattle.sharing.proofs.Pasted.{pasted}
use Rattle.sharing.proofs.share.Given as goal

abbrev pub invariant-loop-face : goal.invariant-loop-face
invariant-loop-face l = l.list ≡ pasted l.forces l.initial.list l.face
