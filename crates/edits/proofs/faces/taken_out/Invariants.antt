-- `faces::taken_out`: what is still to be moved, moved, is the list without the face that is taken out.
use mathlib.Core.Path.{◌≡◌}
use Prim.Native.Nat.{◌+◌, ◌-◌}
use lib.ListN.{length}
use Rattle.job.specs.Carried.{no_face, most_faces}
use Rattle.whole.proofs.Moved.{moved}
use Rattle.edits.proofs.faces.taken_out.Given as goal

abbrev pub invariant-loop-i : goal.invariant-loop-i
invariant-loop-i l =
    record {
      long : length l.r.entry ≡ most_faces;
      count : l.r.count ≡ l.initial.r.count;
      moved : moved no_face (l.last + 1) l.i l.r.entry ≡ moved no_face (l.last + 1) (l.k - 1) l.initial.r.entry;
    }
