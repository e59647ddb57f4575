-- Pairs added and taken away: newtons with newtons, units with units, and one newton carried or lent.
use mathlib.Core.Path.{◌≡◌, ap, ◌∙◌}
use mathlib.Core.Bool.{true, false, ◌&&◌}
use Prim.Native.Nat.{ℕ, ◌+◌, ◌-◌, ◌*◌, ◌≤◌}
use native.Mathlib.Omega.{arith}
use lib.IntN.{ℤ, pos, nat_abs, ◌+ℤ◌, ◌-ℤ◌, ◌*ℤ◌}
use Rattle.whole.specs.Newton.{newton}
use Rattle.whole.proofs.Parts.{order, add-law, sub-lawℤ, up-scale, down-scale}
use Rattle.whole.proofs.Tests.{and-true}
use Rattle.pair.specs.declared.Pair.{Pair}
use Rattle.pair.specs.Total.{pair_of, units, most_added, addable, pair_sum, pair_difference}
use Rattle.pair.proofs.Units.{worth, units-pair_of}
use Rattle.pair.proofs.Sizes.{Sized, within-is, within-pair_of, newtons-small}

pub one-carried : (q : ℤ) (r : ℕ) → newton ≤ r → worth (q +ℤ pos 1) (r - newton) ≡ worth q r
one-carried q r h =
    omega (
      arith,
      order,
      add-law (q *ℤ pos newton) (pos r),
      add-law ((q +ℤ pos 1) *ℤ pos newton) (pos (r - newton)),
      add-law q (pos 1),
      up-scale q newton,
      down-scale q newton,
      up-scale (q +ℤ pos 1) newton,
      down-scale (q +ℤ pos 1) newton,
    )

pub worth-sum : (m n : ℤ) (r s : ℕ) → worth (m +ℤ n) (r + s) ≡ worth m r +ℤ worth n s
worth-sum m n r s =
    omega (
      arith,
      order,
      add-law m n,
      add-law (m *ℤ pos newton) (pos r),
      add-law (n *ℤ pos newton) (pos s),
      add-law ((m +ℤ n) *ℤ pos newton) (pos (r + s)),
      add-law (worth m r) (worth n s),
      up-scale m newton,
      down-scale m newton,
      up-scale n newton,
      down-scale n newton,
      up-scale (m +ℤ n) newton,
      down-scale (m +ℤ n) newton,
    )

pub worth-difference : (m n : ℤ) (r s : ℕ) → s ≤ r + newton
    → worth (m -ℤ n -ℤ pos 1) (r + newton - s) ≡ worth m r -ℤ worth n s
worth-difference m n r s h =
    omega (
      arith,
      order,
      sub-lawℤ m n,
      sub-lawℤ (m -ℤ n) (pos 1),
      add-law (m *ℤ pos newton) (pos r),
      add-law (n *ℤ pos newton) (pos s),
      add-law ((m -ℤ n -ℤ pos 1) *ℤ pos newton) (pos (r + newton - s)),
      sub-lawℤ (worth m r) (worth n s),
      up-scale m newton,
      down-scale m newton,
      up-scale n newton,
      down-scale n newton,
      up-scale (m -ℤ n -ℤ pos 1) newton,
      down-scale (m -ℤ n -ℤ pos 1) newton,
    )

-- ---- the sum and the difference, by whether both can be added

pub record BothAddable (p q : Pair) : Type 0 where
  pub first : Sized most_added p
  pub second : Sized most_added q
  pub first-newtons : nat_abs p.newtons ≤ most_added
  pub second-newtons : nat_abs q.newtons ≤ most_added

pub both-addable : (p q : Pair) → (addable p && addable q) ≡ true → BothAddable p q
both-addable p q e =
    let both = and-true (addable p) (addable q) e in
    let v = within-is most_added p both.0 in
    let w = within-is most_added q both.1 in
    record {
      first = v;
      second = w;
      first-newtons = newtons-small most_added p v;
      second-newtons = newtons-small most_added q w;
    }

pub both-added : (p q : Pair) → (addable p && addable q) ≡ true → pair_of (units p +ℤ units q) ≡ pair_sum p q
unfolding pair_sum
both-added p q e = rw e

pub both-taken : (p q : Pair) → (addable p && addable q) ≡ true → pair_of (units p -ℤ units q) ≡ pair_difference p q
unfolding pair_difference
both-taken p q e = rw e

pub not-added : (p q : Pair) → (addable p && addable q) ≡ false → pair_of (pos 0) ≡ pair_sum p q
unfolding pair_sum
not-added p q e = rw e

pub not_taken : (p q : Pair) → (addable p && addable q) ≡ false → pair_of (pos 0) ≡ pair_difference p q
unfolding pair_difference
not_taken p q e = rw e

-- what callers cite
pub sum_added : (p q : Pair) → addable p ≡ true → addable q ≡ true → pair_sum p q ≡ pair_of (units p +ℤ units q)
unfolding pair_sum
sum_added p q e f = rw (e, f)

pub difference-taken : (p q : Pair) → addable p ≡ true → addable q ≡ true
    → pair_difference p q ≡ pair_of (units p -ℤ units q)
unfolding pair_difference
difference-taken p q e f = rw (e, f)

pub units-sum : (p q : Pair) → addable p ≡ true → addable q ≡ true → units (pair_sum p q) ≡ units p +ℤ units q
units-sum p q e f = ap units (sum_added p q e f) ∙ units-pair_of (units p +ℤ units q)

module _ (a b : ℤ) (h : nat_abs a ≤ most_added * newton) (k : nat_abs b ≤ most_added * newton) where
  pub sum-pair_of : pair_sum (pair_of a) (pair_of b) ≡ pair_of (a +ℤ b)
  sum-pair_of =
      sum_added (pair_of a) (pair_of b) (within-pair_of most_added a h) (within-pair_of most_added b k)
      ∙ (λ i. pair_of (units-pair_of a i +ℤ units-pair_of b i))

  pub difference-pair_of : pair_difference (pair_of a) (pair_of b) ≡ pair_of (a -ℤ b)
  difference-pair_of =
      difference-taken (pair_of a) (pair_of b) (within-pair_of most_added a h) (within-pair_of most_added b k)
      ∙ (λ i. pair_of (units-pair_of a i -ℤ units-pair_of b i))
