-- `digits_of` meets its contract: after so many digits the number is below as many tens multiplied, and what the rest
-- say after it is what all say.
use Prim.Native.Nat.{◌≤◌, ◌<◌, ◌^◌}
use mathlib.Core.Path.{◌≡◌}
use lib.ListN.{length, drop}
use Rattle.field.proofs.Fields.{read_after}
use Rattle.field.proofs.digits_of.Given as goal

abbrev pub invariant-loop-d : goal.invariant-loop-d
invariant-loop-d l = (length l.s ≤ 7) × (l.v < 10 ^ l.d-index)
    × (read_after 0 l.s ≡ read_after l.v (drop l.d-index l.s))
