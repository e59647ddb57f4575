-- `roofs::row_of`: the code's row is the printed one.
-- a row of single slopes is one of five
use mathlib.Core.Path.{refl, sym, ap, ◌∙◌}
use Prim.Native.Nat.{◌<◌}
use native.Mathlib.Omega.{arith}
use Rattle.book.specs.declared.roofs.Row as coded-rows
use Rattle.book.specs.declared.roofs.Slope as coded-slopes
use Rattle.book.proofs.Coded.{Placed, placed, row_is, slope-is, slope-number, number_in}
use Rattle.book.proofs.roofs.row_of.Goals.{Else-k-eq7, Then-k-eq7}
use Rattle.book.proofs.roofs.row_of.Goals as goal

few : (c : Then-k-eq7) → c.args.i < 5
few c = rw c.if-k-eq7.true at c.requires.1

-- and one of the others has its place in the long table
module _ (c : Else-k-eq7) where
  below : c.args.k < 7
  below = omega (arith, c.requires.0, c.if-k-eq7.false)

  set : Placed c.args.k
  set = placed c.args.k below

pub printed_slope-r-requires : goal.printed_slope-r-requires
printed_slope-r-requires c = few c

pub overflow_add-result : goal.overflow_add-result
overflow_add-result c = omega (arith, few (goal.at.overflow_add-result c).Then-k-eq7)

pub overflow_cast-result : goal.overflow_cast-result
overflow_cast-result c = omega (arith, few (goal.at.overflow_cast-result c).Then-k-eq7)

pub returns-then-k-eq7 : goal.returns-then-k-eq7
returns-then-k-eq7 c =
    let at_k_eq7 = (goal.at.returns-then-k-eq7 c).Then-k-eq7 in
    let i = c.args.i in
    let e = c.printed_slope-r.ensures ∙ slope-is i in
    rw c.if-k-eq7.true (
      slope-number i (few at_k_eq7) ∙ sym (number_in (λ r. r.row.number) refl 7 i),
      ap (λ (r : coded-slopes.Slope). r.0) e ∙ sym (number_in (λ r. r.at) refl 7 i),
    )

pub overflow_add-k : goal.overflow_add-k
overflow_add-k c =
    let at_k_eq7 = (goal.at.overflow_add-k c).Else-k-eq7 in
    omega (arith, c.requires.1, (set at_k_eq7).ended, (set at_k_eq7).most)

pub printed_row-r-requires : goal.printed_row-r-requires
printed_row-r-requires c =
    let at_k_eq7 = (goal.at.printed_row-r-requires c).Else-k-eq7 in
    omega (arith, c.requires.1, (set at_k_eq7).ended, (set at_k_eq7).most)

pub returns : goal.returns
returns c =
    let k = c.args.k in
    let i = c.args.i in
    let e = c.printed_row-r.ensures ∙ row_is k i (below (goal.at.returns c).Else-k-eq7) c.requires.1 in (
      ap (λ (r : coded-rows.Row). r.0) e ∙ sym (number_in (λ r. r.row.number) refl k i),
      ap (λ (r : coded-rows.Row). r.1) e ∙ sym (number_in (λ r. r.at) refl k i),
    )
