-- `choices::choice_of` meets its contract: after i faces their alternatives stand in the choice, and what is left is
-- the choice of a number among those of the faces after them.
use mathlib.Core.Path.{◌≡◌}
use lib.ListN.{take, drop}
use Rattle.job.specs.Carried.{most_faces}
use Rattle.worst.specs.Shown.{padded}
use Rattle.plain.specs.ByNumber.{ways, choice_of}
use Rattle.plain.proofs.choices.choice_of.Given as goal

abbrev pub invariant-loop-face : goal.invariant-loop-face
invariant-loop-face l =
    let chosen = choice_of l.fs l.number in
    record {
      left : l.left ≡ ways (drop l.face l.fs);
      set : l.choice ≡ padded most_faces (take l.face chosen);
      rest : choice_of (drop l.face l.fs) l.n ≡ drop l.face chosen;
    }
