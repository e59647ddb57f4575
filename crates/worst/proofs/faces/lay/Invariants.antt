-- `faces::lay` meets its contract: after i faces the first i stand in the list.
use Rattle.std.proofs.Common.{◌≡◌, ℕ, ◌<◌, length, get_or}
use Rattle.entry.specs.Flat.{face_in}
use Rattle.job.specs.Carried.{no_face}
use Rattle.worst.proofs.faces.lay.Given as goal

abbrev pub invariant-loop-i : goal.invariant-loop-i
invariant-loop-i l =
    (length l.flat ≡ 1440) × ((k : ℕ) → k < l.i → face_in l.flat k ≡ get_or l.fn.faces.entry k no_face)
