-- `few::few_added` meets its contract: with the sums of the faces before, the sums up to face i are those of the first
-- i.
use mathlib.Core.Path.{◌≡◌, sym, ap, ◌∙◌, subst}
use Prim.Native.Nat.{ℕ, ◌+◌, ◌<◌, ◌-◌}
use native.Mathlib.Omega.{arith}
use lib.ListN.{get_or}
use Rattle.whole.specs.Lists.{first_of}
use Rattle.entry.specs.declared.Face.{Face}
use Rattle.entry.specs.Flat.{faces_in}
use Rattle.job.specs.Carried.{no_face}
use Rattle.worst.specs.Sums.{plus_axes}
use Rattle.worst.specs.Few.{FewSmall}
use Rattle.worst.specs.Engine.{axes_of, with_face}
use Rattle.worst.specs.Factors.{factor_in}
use Rattle.worst.specs.Small.{Met}
use Rattle.worst.proofs.LentFaces.{face-at}
use Rattle.worst.proofs.SumsGrow.{few-more}
use Rattle.worst.proofs.Added.{plus-no-axes, plus-face, axes-next}
use Rattle.worst.proofs.few.few_added.Goals.{After-face_in-f, In-loop-i, Start}
use Rattle.worst.proofs.few.few_added.Goals as goal

-- face i
module _ (d : In-loop-i) where
  abbrev a : Start
  a = (goal.at.In-loop-i d).Start

  abbrev i : ℕ
  i = d.loop-i.i

  counted : i < a.args.to
  counted = d.loop-i-test.true

  few : i - a.args.from < 24
  few = let t = counted in omega (arith, a.requires.2)

  abbrev face : Face
  face = get_or (faces_in a.args.to a.args.flat.now) i no_face

module _ (k : After-face_in-f) where
  abbrev d : In-loop-i
  d = (goal.at.After-face_in-f k).In-loop-i

  read : k.face_in-f.result ≡ face d
  read =
      k.face_in-f.ensures ∙ sym (face-at d.args.to d.args.flat.now (i d) (counted d))

  met : Met d.args.b d.args.w k.face_in-f.result
  met = subst (Met d.args.b d.args.w) (sym read) (d.requires.3.each (i d) (counted d))

pub loop-i-init : goal.loop-i-init
loop-i-init c =
    let e = c.none-sums.ensures in
    let s = c.args in (
      few-more 0 (s.from - s.from) _ (omega arith) e.1,
      λ profile h.
          ap (plus_axes (axes_of s.b profile s.w (first_of no_face s.from (faces_in s.to s.flat.now))))
          e.0
          ∙ plus-no-axes _,
      c.requires.5,
    )

pub face_in-f-requires : goal.face_in-f-requires
face_in-f-requires d = let t = counted d in omega (arith, d.requires.0.numbered.stand)

pub with_face-sums-requires : goal.with_face-sums-requires
with_face-sums-requires c =
    let at_loop_i = (goal.at.with_face-sums-requires c).In-loop-i in
    let inv = c.loop-i.invariant in
    let below = few at_loop_i in (
      few-more (i at_loop_i - c.args.from) 23 _ (omega arith) inv.0,
      met (goal.at.with_face-sums-requires c).After-face_in-f,
      c.requires.4 (i at_loop_i) (counted at_loop_i),
      inv.2,
    )

pub loop-i-preserved : goal.loop-i-preserved
loop-i-preserved c =
    let at_loop_i = (goal.at.loop-i-preserved c).In-loop-i in
    let at_face = (goal.at.loop-i-preserved c).After-face_in-f in
    let n = i at_loop_i in
    let inv = c.loop-i.invariant in
    let t = counted at_loop_i in
    let s = c.args in
    let l = faces_in s.to s.flat.now in
    let e = c.with_face-sums.ensures in
    let from = c.loop-i.auto.i in (
      few-more (n - s.from + 1) (n + 1 - s.from) _ (omega arith) (e.1 (n - s.from) inv.0),
      λ profile h.
          let before = axes_of s.b profile s.w (first_of no_face s.from l) in
          ap (plus_axes before) e.0
          ∙ plus-face s.b s.w (factor_in s.factors.now n) c.face_in-f.result before _
          ∙ (λ j. with_face s.b s.w (h n t j) (read at_face j) (inv.1 profile h j))
          ∙ axes-next s.b profile s.w l n,
      e.2,
    )

pub returns : goal.returns
returns c =
    let inv = c.loop-i.invariant in
    let left = c.loop-i-test.false in
    let s = c.args in
    let e : c.loop-i.i ≡ s.to = omega (arith, c.loop-i.auto.i-end c.requires.1) in (
      subst (λ n. FewSmall (n - s.from) c.loop-i.sums) e inv.0,
      λ profile h. inv.1 profile h
          ∙ ap (λ k. axes_of s.b profile s.w (first_of no_face k (faces_in s.to s.flat.now))) e,
      inv.2,
    )
