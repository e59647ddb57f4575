-- `order::how_many_ahead` meets its contract: after as many turns as `other`, those of the first so many are counted.
use mathlib.Core.Path.{◌≡◌, refl, sym, ap, ◌∙◌}
use mathlib.Core.Bool.{cond}
use mathlib.Core.List.{List}
use Prim.Native.Nat.{ℕ, suc, ◌≤◌}
use native.Mathlib.Omega.{arith}
use native.Mathlib.Numerals.{add-one}
use borrow.Author.Rules.{rules}
use lib.IntN.{ℤ}
use lib.ListN.{length}
use Rattle.whole.specs.Lists.{numbers, how_many}
use Rattle.whole.specs.Newton.{remainder}
use Rattle.whole.proofs.Numbers.{length-numbers}
use Rattle.whole.proofs.Counting.{many-number, many-few}
use Rattle.whole.proofs.Size.{said}
use Rattle.sharing.specs.Column.{own_force, comes_first, is_ahead, ahead}
use Rattle.sharing.proofs.order.how_many_ahead.Invariants.{among}
use Rattle.sharing.proofs.order.how_many_ahead.Goals.{
  After-comes_first,
  At-loop-other,
  then-comes_first,
  else-comes_first,
}
use Rattle.sharing.proofs.order.how_many_ahead.Goals as goal

-- a face that counts, or does not
module _ (c : After-comes_first) where
  abbrev l : At-loop-other
  l = (goal.at.After-comes_first c).At-loop-other

  abbrev fs : List ℤ
  fs = l.args.forces.now

  abbrev face : ℕ
  face = l.args.face

  tested : c.comes_first.result ≡ is_ahead fs l.loop-other.other face
  tested =
      let own = said remainder (own_force fs face) l.remainder-own.ensures (search rules) in
      let next = said remainder (own_force fs l.loop-other.other) c.remainder.ensures (search rules) in
      c.comes_first.ensures ∙ (λ k. comes_first (next k) l.loop-other.other (own k) face)

  few : l.loop-other.n ≤ l.loop-other.other
  few =
      let ns = numbers l.loop-other.other 0 in
      let m = many-few (λ j. is_ahead fs j face) ns in
      omega (arith, l.loop-other.invariant, m, length-numbers l.loop-other.other 0)

pub loop-other-init : goal.loop-other-init
unfolding numbers how_many
loop-other-init c = refl

pub overflow_add-n : goal.overflow_add-n
overflow_add-n c = let t = few (goal.at.overflow_add-n c).After-comes_first in omega arith

pub loop-other-preserved : goal.loop-other-preserved
loop-other-preserved c =
    let d = (goal.at.loop-other-preserved c).After-comes_first in
    let n = c.loop-other.n in
    let e : c.if-comes_first.n ≡ cond c.comes_first.result (suc n) n =
    elim c.if-comes_first.branch [
      | then-comes_first w ↦ w.n-is ∙ add-one n ∙ sym (ap (λ t. cond t (suc n) n) w.if-comes_first.true)
      | else-comes_first w ↦ w.n-is ∙ sym (ap (λ t. cond t (suc n) n) w.if-comes_first.false)
    ] in
    e
    ∙ (λ k. cond (tested d k) (suc (c.loop-other.invariant k)) (c.loop-other.invariant k))
    ∙ sym (many-number (λ j. is_ahead (fs d) j (face d)) c.loop-other.other)

pub returns : goal.returns
unfolding ahead
returns c =
    let s = c.args in
    let all : c.loop-other.other ≡ length s.forces.now = omega arith in
    c.loop-other.invariant ∙ ap (among s.forces.now s.face) all
