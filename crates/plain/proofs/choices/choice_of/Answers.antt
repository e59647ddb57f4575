-- `choices::choice_of` meets its contract: after i faces their alternatives stand in the choice, and what is left is
-- the choice of a number among those of the faces after them.
use mathlib.Core.Path.{refl, ap, ◌∙◌}
use Prim.Native.Nat.{◌+◌, ◌≤◌}
use native.Mathlib.Omega.{arith}
use lib.ListN.{length, take, drop, get_or, set}
use lib.Seq.{length-take-le, take_all}
use Rattle.std.proofs.lemmas.List.{drop_more}
use Rattle.job.specs.Carried.{most_faces}
use Rattle.worst.specs.PerFace.{no_face_forces}
use Rattle.worst.specs.Shown.{padded}
use Rattle.worst.proofs.Padded.{padded-set}
use Rattle.plain.specs.declared.choices.Turn.{Turn}
use Rattle.plain.specs.ByNumber.{choice_of}
use Rattle.plain.proofs.Choosing.{turn-left, turn_on, turn-chosen, choice-length}
use Rattle.plain.proofs.choices.choice_of.Goals as goal

pub loop-face-init : goal.loop-face-init
unfolding padded
loop-face-init c = record { left = c.requires.1; set = refl; rest = refl }

pub loop-face-preserved : goal.loop-face-preserved
loop-face-preserved c =
    let fs = c.args.fs.now in
    let i = c.loop-face.face in
    let was = c.loop-face.invariant in
    let rest = drop (i + 1) fs in
    let chosen = choice_of fs c.args.number in
    let here = drop_more fs i no_face_forces c.loop-face-test.true in
    let long : i ≤ length chosen = omega (arith, choice-length fs c.args.number, c.loop-face-test.true) in
    record {
      left = ap (λ (x : Turn). x.left) c.one_turn-s.ensures
          ∙ turn-left fs (get_or fs i no_face_forces) rest c.args.number c.loop-face.n c.loop-face.left i here was.left
          was.rest;
      set = (λ m. set (was.set m) i (c.one_turn-s.ensures m).alternative)
          ∙ padded-set most_faces (take i chosen) i _ (length-take-le i chosen long) (omega arith)
          ∙ ap (padded most_faces)
          (turn-chosen fs (get_or fs i no_face_forces) rest c.args.number c.loop-face.n c.loop-face.left i here was.left
          was.rest);
      rest = ap (λ (x : Turn). choice_of rest x.number) c.one_turn-s.ensures
          ∙ turn_on fs (get_or fs i no_face_forces) rest c.args.number c.loop-face.n c.loop-face.left i here was.left
          was.rest;
    }

pub returns : goal.returns
returns c =
    let chosen = choice_of c.args.fs.now c.args.number in
    c.loop-face.invariant.set
    ∙ ap (padded most_faces)
    (take_all c.loop-face.face chosen
    (omega (arith, choice-length c.args.fs.now c.args.number, c.loop-face-test.false)))
