-- Each entry is less than 1 N from its exact force, and a force that is a whole number of newtons stays.
use mathlib.Core.Path.{◌≡◌, refl, sym, ap, subst, ◌∙◌}
use mathlib.Core.Bool.{Bool, true, false, true≢false}
use mathlib.Core.Logic.{⊎_elim}
use mathlib.Core.List.{List}
use Prim.Native.Nat.{ℕ, ◌+◌, ◌*◌, ◌<◌}
use native.Mathlib.Omega.{arith}
use borrow.Author.Tests.{ltb-true, ltb-false, le-ltb}
use lib.Dec.{ltb}
use lib.IntN.{ℤ, pos, nat_abs, ◌+ℤ◌, ◌-ℤ◌, ◌*ℤ◌}
use lib.ListN.{length, get_or}
use Rattle.whole.specs.Lists.{numbers, how_many}
use Rattle.whole.specs.Newton.{newton, newtons, remainder}
use Rattle.whole.proofs.Parts.{up, down, add-law, sub-lawℤ, up-scale, down-scale, nat_abs-is, one-is-zero}
use Rattle.whole.proofs.Newton.{remainder-small}
use Rattle.whole.proofs.Numbers.{places}
use Rattle.whole.proofs.Counting.{many-map, many-le}
use Rattle.whole.proofs.Tests.{by-test}
use Rattle.sharing.specs.Column.{own_force, is_ahead, ahead, column}
use Rattle.sharing.proofs.Remainders.{lacking, parts, some_left, lacking-few}
use Rattle.sharing.proofs.Ahead.{by-larger}
use Rattle.sharing.proofs.Entries.{column-at}
use Rattle.sharing.proofs.AddsUp.{one_more_if, gets, share-is}

-- a distance, from how far it is to either side
within : (x f : ℤ) → newton * up x + down f < newton * down x + up f + newton
    → newton * down x + up f < newton * up x + down f + newton
    → nat_abs (x *ℤ pos newton -ℤ f) < newton
within x f h k =
    let d = x *ℤ pos newton -ℤ f in
    let law = sub-lawℤ (x *ℤ pos newton) f in
    let u = up-scale x newton in
    let v = down-scale x newton in
    let n = nat_abs-is d in
    ⊎_elim (λ z. omega arith) (λ z. omega arith) (one-is-zero d)

module _ (fs : List ℤ) (i : ℕ) (h : i < length fs) where
  abbrev force : ℤ
  force = own_force fs i

  -- every face with something left is ahead of one with nothing left
  gets_none : remainder force ≡ 0 → gets fs i ≡ false
  unfolding ahead
  gets_none e =
      let ns = numbers (length fs) 0 in
      let some = many-map some_left (own_force fs) ns in
      let same = ap (how_many some_left) (places (pos 0) fs) in
      let rest =
      many-le (λ j. some_left (own_force fs j)) (λ j. is_ahead fs j i) ns
      (λ j m t.
      let s = ltb-true 0 (remainder (own_force fs j)) t in
      by-larger (remainder (own_force fs j)) j (remainder force) i (omega arith)) in
      le-ltb (ahead fs i) (lacking fs) (omega (arith, lacking-few fs))

  pub whole-stays : remainder force ≡ 0 → get_or (column fs) i (pos 0) ≡ newtons force
  whole-stays e = column-at fs i h ∙ share-is fs i ∙ ap (λ t. one_more_if t (newtons force)) (gets_none e)

  close : (t : Bool) → gets fs i ≡ t → nat_abs (one_more_if t (newtons force) *ℤ pos newton -ℤ force) < newton
  close false g =
      let p = parts force in
      let small = remainder-small force in
      within (newtons force) force (omega arith) (omega arith)
  close true g =
      let p = parts force in
      let small = remainder-small force in
      let more = add-law (newtons force) (pos 1) in
      by-test (ltb 0 (remainder force))
      (λ e.
      let some = ltb-true 0 (remainder force) e in
      within (newtons force +ℤ pos 1) force (omega arith) (omega arith))
      (λ e.
      let none : remainder force ≡ 0 = omega (arith, ltb-false 0 (remainder force) e) in
      absurd (true≢false (sym g ∙ gets_none none)))

  pub near : nat_abs (get_or (column fs) i (pos 0) *ℤ pos newton -ℤ force) < newton
  near =
      subst (λ z. nat_abs (z *ℤ pos newton -ℤ force) < newton) (sym (column-at fs i h ∙ share-is fs i))
      (close (gets fs i) refl)
