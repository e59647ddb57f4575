-- `twos::mark_twos` meets its contract: after i faces those of the first i that have two are marked, and the others as
-- they were.
use mathlib.Core.Path.{◌≡◌}
use mathlib.Core.Bool.{false, ◌||◌}
use Prim.Native.Nat.{ℕ, ◌≤◌, ◌<◌}
use lib.ListN.{length, get_or}
use Rattle.job.specs.Carried.{most_faces}
use Rattle.worst.specs.PerFace.{no_face_forces}
use Rattle.plain.specs.ByNumber.{has_two}
use Rattle.plain.proofs.twos.mark_twos.Given as goal

abbrev pub invariant-loop-i : goal.invariant-loop-i
invariant-loop-i l =
    record {
      long : length l.marks ≡ most_faces;
      marked : (k : ℕ) → k < l.i
          → get_or l.marks k false ≡ (get_or l.initial.marks k false || has_two (get_or l.cell.face k no_face_forces));
      others : (k : ℕ) → l.i ≤ k → get_or l.marks k false ≡ get_or l.initial.marks k false;
    }
