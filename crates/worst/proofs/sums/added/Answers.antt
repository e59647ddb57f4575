-- `sums::added` meets its contract: after some parts that end at face i the sums are those of the first i.
use mathlib.Core.Path.{◌≡◌, sym, ap, ◌∙◌, subst}
use mathlib.Core.List.{List}
use Prim.Native.Nat.{ℕ, ◌+◌, ◌-◌, ◌≤◌, ◌<◌}
use native.Mathlib.Omega.{arith}
use borrow.Author.Rules.{rules}
use lib.ListN.{get_or}
use Rattle.whole.specs.Lists.{first_of}
use Rattle.whole.proofs.Lists.{first_of-fewer}
use Rattle.entry.specs.declared.Face.{Face}
use Rattle.entry.specs.Flat.{faces_in}
use Rattle.job.specs.Carried.{no_face}
use Rattle.worst.specs.Quick.{sum}
use Rattle.worst.specs.Sums.{plus_axes}
use Rattle.worst.specs.Few.{few_axes}
use Rattle.worst.specs.Engine.{axes_of}
use Rattle.worst.specs.Forces.{factor_of}
use Rattle.worst.specs.Small.{Met}
use Rattle.worst.proofs.LentFaces.{face-at, faces-fewer}
use Rattle.worst.proofs.SumsGrow.{all_more, few-more}
use Rattle.worst.proofs.sums.added.Goals.{After-end_of_few-to, Start}
use Rattle.worst.proofs.sums.added.Goals as goal

-- the faces up to where the next part ends
module _ (c : After-end_of_few-to) where
  abbrev a : Start
  a = (goal.at.After-end_of_few-to c).Start

  abbrev i : ℕ
  i = c.loop-i.i

  abbrev to : ℕ
  to = c.end_of_few-to.result

  some : i < to
  some = c.end_of_few-to.ensures.0

  counted : to ≤ a.args.faces
  counted = c.end_of_few-to.ensures.1

  few : to ≤ i + 24
  few = c.end_of_few-to.ensures.2

  abbrev l : List Face
  l = faces_in a.args.faces a.args.flat.now

  -- they are the same as of all
  same : (k : ℕ) → k < to → get_or l k no_face ≡ get_or (faces_in to a.args.flat.now) k no_face
  same k t =
      let h = counted in
      face-at a.args.faces a.args.flat.now k (omega arith) ∙ sym (face-at to a.args.flat.now k t)

  first : (n : ℕ) → n ≤ to → first_of no_face n (faces_in to a.args.flat.now) ≡ first_of no_face n l
  first n h =
      ap (first_of no_face n) (faces-fewer to a.args.faces a.args.flat.now counted)
      ∙ first_of-fewer no_face n to l h

pub loop-i-init : goal.loop-i-init
unfolding sum first_of
loop-i-init c =
    let e = c.nothing-sums.ensures in
    (search rules, e.1, λ profile h. e.0, c.requires.3)

pub end_of_few-to-requires : goal.end_of_few-to-requires
end_of_few-to-requires c = (c.loop-i-test.true, c.requires.0.numbered.few)

pub few_added-few-requires : goal.few_added-few-requires
few_added-few-requires d =
    let at_end_of_few_to = (goal.at.few_added-few-requires d).After-end_of_few-to in
    let lent = d.requires.0 in
    let s = some at_end_of_few_to in
    let h = counted at_end_of_few_to in
    let r = lent.numbered in (
      record {
        numbered = record { few = omega (arith, r.few); stand = omega (arith, r.stand) };
        room = omega (arith, lent.room);
      },
      omega arith,
      few at_end_of_few_to,
      record {
        few = omega (arith, r.few);
        each = λ k t. subst (Met d.args.b d.args.w) (same at_end_of_few_to k t) (d.requires.1.each k (omega arith));
      },
      (λ k t. d.requires.2 k (omega arith)),
      d.loop-i.invariant.3,
    )

pub with_all_few-sums-requires : goal.with_all_few-sums-requires
with_all_few-sums-requires f =
    let at_end_of_few_to = (goal.at.with_all_few-sums-requires f).After-end_of_few-to in
    let s = some at_end_of_few_to in
    let h = counted at_end_of_few_to in
    let few = few at_end_of_few_to in (
      all_more (i at_end_of_few_to) 239 _ (omega (arith, f.requires.0.numbered.few)) f.loop-i.invariant.1,
      few-more (to at_end_of_few_to - i at_end_of_few_to) 24 _ (omega arith) f.few_added-few.ensures.0,
    )

pub loop-i-smaller : goal.loop-i-smaller
loop-i-smaller r =
    let at_end_of_few_to = (goal.at.loop-i-smaller r).After-end_of_few-to in
    let s = some at_end_of_few_to in let h = counted at_end_of_few_to in omega arith

pub loop-i-preserved : goal.loop-i-preserved
loop-i-preserved r =
    let at_end_of_few_to = (goal.at.loop-i-preserved r).After-end_of_few-to in
    let inv = r.loop-i.invariant in
    let s = some at_end_of_few_to in
    let h = counted at_end_of_few_to in
    let args = r.args in
    let e = r.with_all_few-sums.ensures in
    let m = to at_end_of_few_to - i at_end_of_few_to - 1 in (
      counted at_end_of_few_to,
      all_more (i at_end_of_few_to + (m + 1)) (to at_end_of_few_to) _ (omega arith)
          (e.1 (i at_end_of_few_to) m inv.1
          (few-more (to at_end_of_few_to - i at_end_of_few_to) (m + 1) _ (omega arith) r.few_added-few.ensures.0)),
      λ profile q.
          e.0
          ∙ ap (λ p. plus_axes p (few_axes r.few_added-few.result))
          (inv.2 profile q
          ∙ ap (axes_of args.b profile args.w) (sym (first at_end_of_few_to (i at_end_of_few_to) (omega arith))))
          ∙ r.few_added-few.ensures.1 profile
          (λ k t. q k (omega arith) ∙ ap (factor_of profile) (same at_end_of_few_to k t))
          ∙ ap (axes_of args.b profile args.w) (first at_end_of_few_to (to at_end_of_few_to) (omega arith)),
      r.few_added-few.ensures.2,
    )

pub returns : goal.returns
returns c =
    let inv = c.loop-i.invariant in
    let left = c.loop-i-test.false in
    let s = c.args in
    let e : c.loop-i.i ≡ s.faces = omega (arith, inv.0) in (
      all_more _ 240 _ (omega (arith, inv.0, c.requires.0.numbered.few)) inv.1,
      λ profile h. inv.2 profile h
          ∙ ap (λ k. axes_of s.b profile s.w (first_of no_face k (faces_in s.faces s.flat.now))) e,
      inv.3,
    )
