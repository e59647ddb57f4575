-- `speeds::fill` meets its contract: in year 1 nothing is changed, and otherwise after i faces the factors of the
-- first i stand in the arrays.
use mathlib.Core.Path.{◌≡◌, sym, ap, ◌∙◌, subst}
use Prim.Native.Nat.{ℕ, ◌<◌}
use native.Mathlib.Omega.{arith}
use mathlib.Core.Bool.{true}
use lib.ListN.{get_or}
use mir.Syntax.{w64}
use mir.Val.{SFits, to_z, of_z}
use mir.ValLaws.{to_z-of_z}
use borrow.Author.Rules.{rules}
use Rattle.whole.proofs.Size.{num≤, back}
use Rattle.entry.specs.declared.Face.{Face}
use Rattle.entry.specs.Flat.{faces_in}
use Rattle.job.specs.Carried.{no_face}
use Rattle.building.specs.Year.{has_heights}
use Rattle.worst.specs.Speed.{factor_at}
use Rattle.worst.specs.Factors.{steps_of, Height}
use Rattle.worst.specs.Lent.{faces_by}
use Rattle.worst.proofs.LentFaces.{face-at}
use Rattle.worst.proofs.Factors.{ones-stand, none-stand, next-stands}
use Rattle.worst.proofs.speeds.fill.Goals.{Start, After-has_heights, Else-not-has_heights, In-loop-i}
use Rattle.worst.proofs.speeds.fill.Goals.{After-face_in-f}
use Rattle.worst.proofs.speeds.fill.Goals as goal

-- whether there are heights
known : (c : After-has_heights)
    → c.has_heights.result ≡ has_heights c.args.s.year
known c =
    let fits : SFits w64 c.args.s.year = search rules in
    c.has_heights.ensures ∙ ap has_heights (to_z-of_z w64 _ fits)

has : (c : Else-not-has_heights) → has_heights c.args.s.year ≡ true
has c = sym (known (goal.at.Else-not-has_heights c).After-has_heights) ∙ c.if-not-has_heights.false

-- face i
module _ (d : In-loop-i) where
  abbrev a : Start
  a = (goal.at.In-loop-i d).Start

  heights : has_heights a.args.s.year ≡ true
  heights = has (goal.at.In-loop-i d).Else-not-has_heights

  abbrev i : ℕ
  i = d.loop-i.i

  room : i < a.args.faces
  room = d.loop-i-test.true

  few : i < 240
  few = let t = room in omega (arith, a.requires.0.numbered.few)

  abbrev face : Face
  face = get_or (faces_in a.args.faces a.args.flat.now) i no_face

  low : Height face.height
  low = a.requires.2.heights heights i room

  height : to_z w64 (of_z w64 face.height) ≡ face.height
  height = (back w64 (num≤ face.height low) tt).same

-- as it is read
module _ (c : After-face_in-f) where
  read-face : c.face_in-f.result ≡ face (goal.at.After-face_in-f c).In-loop-i
  read-face =
      let at_face = (goal.at.After-face_in-f c).In-loop-i in
      c.face_in-f.ensures ∙ sym (face-at c.args.faces c.args.flat.now (i at_face) (room at_face))

  height-read : to_z w64 (of_z w64 c.face_in-f.result.height) ≡ (face (goal.at.After-face_in-f c).In-loop-i).height
  height-read = ap (λ (f : Face). to_z w64 (of_z w64 f.height)) read-face ∙ height (goal.at.After-face_in-f c).In-loop-i

pub returns-then-not-has_heights : goal.returns-then-not-has_heights
returns-then-not-has_heights c =
    rw (sym (known (goal.at.returns-then-not-has_heights c).After-has_heights) ∙ c.if-not-has_heights.true)
    (ones-stand (faces_by c.args.faces c.args.flat.now) _ c.requires.1 c.requires.0.room)

pub loop-i-init : goal.loop-i-init
loop-i-init c = none-stand _ _ _ _ c.requires.0.room

pub face_in-f-requires : goal.face_in-f-requires
face_in-f-requires d = let t = room d in omega (arith, d.requires.0.numbered.stand)

pub factor_at-requires : goal.factor_at-requires
factor_at-requires c =
    let at_loop_i = (goal.at.factor_at-requires c).In-loop-i in
    let at_face_in_f = (goal.at.factor_at-requires c).After-face_in-f in
    (c.requires.2.profile (heights at_loop_i), subst Height (sym (height-read at_face_in_f)) (low at_loop_i))

pub loop-i-preserved : goal.loop-i-preserved
loop-i-preserved c =
    let at_loop_i = (goal.at.loop-i-preserved c).In-loop-i in
    let steps = steps_of c.args.s.profile in
    next-stands c.args.faces steps (faces_in c.args.faces c.args.flat.now) (i at_loop_i) _ _ c.loop-i.invariant
    (room at_loop_i)
    (c.factor_at.ensures ∙ ap (factor_at steps) (height-read (goal.at.loop-i-preserved c).After-face_in-f))

pub returns : goal.returns
returns c =
    rw (has (goal.at.returns c).Else-not-has_heights)
    (λ m t. c.loop-i.invariant.stand m (omega (arith, c.loop-i-test.false)))
