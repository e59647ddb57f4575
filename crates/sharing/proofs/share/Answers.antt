-- `share` meets its contract: after as many turns as `face`, the list holds the first so many entries.
use mathlib.Core.Path.{◌≡◌, refl, ap, ◌∙◌}
use mathlib.Core.List.{List}
use Prim.Native.Nat.{◌≤◌}
use native.Mathlib.Omega.{arith}
use borrow.Author.Tests.{le-leb, lt-leb}
use lib.IntN.{ℤ}
use lib.ListN.{length, set}
use mir.Syntax.{w64}
use Rattle.whole.proofs.Size.{returned}
use Rattle.sharing.specs.Column.{column}
use Rattle.sharing.proofs.Entries.{column-length}
use Rattle.sharing.proofs.Pasted.{pasted, pasted_length, pasted-next, pasted-all}
use Rattle.sharing.proofs.share.Goals.{At-loop-face}
use Rattle.sharing.proofs.share.Goals as goal

-- there is room
module _ (c : At-loop-face) where
  abbrev fs : List ℤ
  fs = c.args.forces.now

  abbrev old : List ℤ
  old = c.args.list.now

  room : length fs ≤ length old
  room = c.if-list-forces.false

  same : length c.loop-face.list ≡ length old
  same = ap length c.loop-face.invariant ∙ pasted_length fs old room c.loop-face.face c.loop-face.auto.face-end

pub returns-then-list-forces : goal.returns-then-list-forces
returns-then-list-forces c =
    let a = c.args in
    let n = column-length a.forces.now in
    let few = c.if-list-forces.true in
    let s = lt-leb (length a.forces.now) (length a.list.now) (omega arith) in
    let t = lt-leb (length (column a.forces.now)) (length a.list.now) (omega arith) in
    (simp s, simp t)

pub loop-face-init : goal.loop-face-init
loop-face-init c = refl

pub bounds-list-face : goal.bounds-list-face
bounds-list-face c =
    let d = (goal.at.bounds-list-face c).At-loop-face in
    omega (arith, same d, room d)

pub loop-face-preserved : goal.loop-face-preserved
loop-face-preserved c =
    let d = (goal.at.loop-face-preserved c).At-loop-face in
    let value = (returned w64 c.share_of.result c.share_of.type_inv).same ∙ c.share_of.ensures in
    (λ k. set (c.loop-face.invariant k) c.loop-face.face (value k))
    ∙ pasted-next (fs d) (old d) (room d) c.loop-face.face c.loop-face-test.true

pub shape_of-list : goal.shape_of-list
shape_of-list c = same (goal.at.shape_of-list c).At-loop-face

pub returns : goal.returns
returns c =
    let d = (goal.at.returns c).At-loop-face in
    let all : c.loop-face.face ≡ length (fs d) = omega arith in (
      simp (le-leb (length (fs d)) (length (old d)) (room d)),
      c.loop-face.invariant
          ∙ ap (pasted (fs d) (old d)) all
          ∙ pasted-all (fs d) (old d) (room d),
    )
