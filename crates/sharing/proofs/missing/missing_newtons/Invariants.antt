-- `missing::missing_newtons` meets its contract: the newtons counted, what is past them and the remainders still to
-- come are all the remainders.
use mathlib.Core.Path.{◌≡◌}
use Prim.Native.Nat.{◌+◌, ◌*◌, ◌≤◌, ◌<◌}
use lib.ListN.{drop}
use Rattle.whole.specs.Newton.{newton}
use Rattle.sharing.proofs.Remainders.{remainders}
use Rattle.sharing.proofs.missing.missing_newtons.Given as goal

abbrev pub invariant-loop-force : goal.invariant-loop-force
invariant-loop-force l =
    (l.count ≤ l.force-index) × (l.past < newton)
    × (newton * l.count + l.past + remainders (drop l.force-index l.forces) ≡ remainders l.forces)
