-- `faces_from` meets its contract: each line that is passed is plain and has no fault.
use mathlib.Core.Path.{◌≡◌}
use lib.ListN.{length}
use Rattle.sheet.proofs.FaceLines.{Passed}
use Rattle.sheet.proofs.faces.faces_from.Given as goal

abbrev pub invariant-loop-done : goal.invariant-loop-done
invariant-loop-done l =
    (length l.flat ≡ length l.initial.flat)
    × Passed l.s l.b l.at l.faces l.initial.flat l.done l.next l.flat
