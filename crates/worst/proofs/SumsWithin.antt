-- The sums of a job in order are such as a job of its year can have; and so are those that tell.
use mathlib.Core.Path.{◌≡◌, refl}
use mathlib.Core.Bool.{Bool, true, ◌&&◌}
use mathlib.Core.List.{List, [], ◌∷◌, map}
use Prim.Native.Nat.{ℕ, zero, suc, ◌+◌, ◌*◌, ◌/◌, ◌%◌, ◌≤◌, ◌<◌}
use native.Mathlib.Omega.{arith}
use lib.IntN.{nat_abs}
use lib.ListN.{get_or}
use Rattle.whole.specs.Lists.{numbers}
use Rattle.whole.specs.Newton.{newton}
use Rattle.whole.proofs.Newton.{remainder-small}
use Rattle.whole.proofs.Tests.{by-test, and-true}
use Rattle.pair.specs.declared.Pair.{Pair}
use Rattle.pair.specs.Total.{no_pair, within_newtons}
use Rattle.pair.proofs.Sizes.{is_within, within-small}
use Rattle.job.specs.Carried.{Carried}
use Rattle.job.specs.InOrder.{InOrder}
use Rattle.worst.specs.declared.Side.{Side}
use Rattle.worst.specs.declared.Side.TheVariants.{Greatest, Least}
use Rattle.worst.specs.declared.Axis.{Axis}
use Rattle.worst.specs.declared.Axis.TheVariants.{X, Y, Z}
use Rattle.worst.specs.declared.Span.{Span}
use Rattle.worst.specs.declared.StoredCell.{StoredCell}
use Rattle.worst.specs.declared.Stored.{Stored}
use Rattle.worst.specs.Worst.{given}
use Rattle.worst.specs.Within.{most_newtons, span_within, cell_within, all_within}
use Rattle.worst.specs.Stored.{stored_cells, cell_of, no_cell, counts, span_on, span_side, sums_at, stored_of, telling}
use Rattle.worst.proofs.Parts.{stored_on, stored-small}

both : (s t : Bool) → s ≡ true → t ≡ true → s && t ≡ true
both s t e f = rw (e, f)

-- ---- cell by cell

pub all-within : (n : ℕ) (h : ℕ → StoredCell) → ((k : ℕ) → cell_within n (h k) ≡ true) → (m i : ℕ)
    → all_within n (map h (numbers m i)) ≡ true
unfolding all_within numbers
all-within n h e zero i = refl
all-within n h e (suc m) i = both (cell_within n (h i)) _ (e i) (all-within n h e m (suc i))

module _ (n : ℕ) where
  none_within : cell_within n no_cell ≡ true
  none_within =
      let zero = is_within n no_pair (record { proper = omega arith; small = omega arith }) in
      let span = both _ _ zero zero in
      both _ _ span (both _ _ span span)

  pub within-at : (l : List StoredCell) → all_within n l ≡ true → (k : ℕ) → cell_within n (get_or l k no_cell) ≡ true
  unfolding all_within
  within-at [] h k = none_within
  within-at (t ∷ l) h zero = (and-true (cell_within n t) (all_within n l) h).0
  within-at (t ∷ l) h (suc k) = within-at l (and-true (cell_within n t) (all_within n l) h).1 k

  -- no sum of such a cell is larger
  pub side-small : (t : StoredCell) → cell_within n t ≡ true → (axis : Axis) (s : Side)
      → nat_abs (span_side s (span_on axis t)) ≤ n * newton
  side-small t h axis s =
      let x = and-true (span_within n t.x) _ h in
      let y = and-true (span_within n t.y) _ x.1 in
      by axis s x.0 y.0 y.1
    where
      of-span : (p : Span) → span_within n p ≡ true → (s : Side) → nat_abs (span_side s p) ≤ n * newton
      of-span p e Greatest =
          within-small n p.greatest (and-true (within_newtons n p.greatest) (within_newtons n p.least) e).0
      of-span p e Least =
          within-small n p.least (and-true (within_newtons n p.greatest) (within_newtons n p.least) e).1

      by : (axis : Axis) (s : Side) → span_within n t.x ≡ true → span_within n t.y ≡ true
          → span_within n t.z ≡ true → nat_abs (span_side s (span_on axis t)) ≤ n * newton
      by X s x y z = of-span t.x x s
      by Y s x y z = of-span t.y y s
      by Z s x y z = of-span t.z z s

-- ---- the sums of a job in order

abbrev pair_side : Side → Span → Pair
pair_side Greatest p = p.greatest
pair_side Least p = p.least

module _ (c : Carried) (o : InOrder c) where
  abbrev n : ℕ
  n = most_newtons c.year

  abbrev cell : ℕ → StoredCell
  cell k = sums_at (given c) k

  -- every one is a pair of a total
  rest : (axis : Axis) (s : Side) (k : ℕ) → (pair_side s (span_on axis (cell k))).remainder < newton
  rest axis s k = by-test (counts (given c) k) (λ t. rw t (some axis s)) (λ t. rw t (none axis s))
    where
      some : (axis : Axis) (s : Side)
          → (pair_side s (span_on axis (cell_of (given c) (k / 4 + 1) (k % 4 + 1)))).remainder < newton
      some X Greatest = remainder-small _
      some X Least = remainder-small _
      some Y Greatest = remainder-small _
      some Y Least = remainder-small _
      some Z Greatest = remainder-small _
      some Z Least = remainder-small _

      none : (axis : Axis) (s : Side) → (pair_side s (span_on axis no_cell)).remainder < newton
      none X Greatest = omega arith
      none X Least = omega arith
      none Y Greatest = omega arith
      none Y Least = omega arith
      none Z Greatest = omega arith
      none Z Least = omega arith

  small : (axis : Axis) (s : Side) (k : ℕ) → nat_abs (stored_on axis s c k) ≤ n * newton
  small axis s k = omega (arith, stored-small c o axis s k, o.faces-counted.high)

  fits : (axis : Axis) (k : ℕ) → span_within n (span_on axis (cell k)) ≡ true
  fits axis k =
      both _ _
      (is_within n _ (record { proper = rest axis Greatest k; small = small axis Greatest k }))
      (is_within n _ (record { proper = rest axis Least k; small = small axis Least k }))

  pub own-within : all_within (most_newtons c.year) (stored_of c).cell ≡ true
  unfolding stored_of
  own-within =
      all-within n cell (λ k. both _ _ (fits X k) (both _ _ (fits Y k) (fits Z k))) stored_cells 0

  -- and so are those that tell, whatever was handed in
  pub telling-within : (t : Stored) → all_within (most_newtons c.year) (telling t c).cell ≡ true
  telling-within t =
      by-test (all_within (most_newtons c.year) t.cell) (λ e. rw e e) (λ e. rw e own-within)

  -- in the place of others the job's own tell, and of its own they are those
  pub telling-own : telling (stored_of c) c ≡ stored_of c
  telling-own = rw own-within
