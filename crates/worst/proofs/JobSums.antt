-- The sums of a job in order: each is what the engine reckons of its cell, and together they tell the job's six
-- extremes.
use mathlib.Core.Path.{◌≡◌, sym, ap, ap₂, ◌∙◌}
use mathlib.Core.Bool.{false}
use mathlib.Core.List.{List}
use Prim.Native.Nat.{ℕ, ◌+◌, ◌-◌, ◌*◌, ◌≤◌, ◌<◌}
use native.Mathlib.Omega.{arith}
use lib.IntN.{pos}
use lib.ListN.{length, get_or}
use Rattle.whole.proofs.Lists.{first_of-length}
use Rattle.pair.proofs.Units.{units-pair_of}
use Rattle.building.specs.declared.Building.{Building}
use Rattle.entry.specs.declared.Step.{Step}
use Rattle.job.specs.declared.Job.{Job}
use Rattle.job.specs.declared.Winds.{Winds}
use Rattle.job.specs.declared.Internals.{Internals}
use Rattle.job.specs.declared.Faces.{Faces}
use Rattle.job.specs.Carried.{carried, no_wind}
use Rattle.job.specs.InOrder.{InOrder}
use Rattle.worst.specs.declared.Side.{Side}
use Rattle.worst.specs.declared.Side.TheVariants.{Greatest, Least}
use Rattle.worst.specs.declared.Axis.{Axis}
use Rattle.worst.specs.declared.Axis.TheVariants.{X, Y, Z}
use Rattle.worst.specs.declared.StoredCell.{StoredCell}
use Rattle.worst.specs.Forces.{Given, loads}
use Rattle.worst.specs.Factors.{profile_of}
use Rattle.worst.specs.Shown.{shown}
use Rattle.worst.specs.Worst.{given, extreme, six_extremes}
use Rattle.worst.specs.Stored.{stored_cells, best_choice, value_of, cell_of, no_cell, counts, sums_at, stored_of}
use Rattle.worst.specs.Stored.{span_side, span_on, stored_at, extreme_by, six_by}
use Rattle.worst.specs.Engine.{faces_of, axes_of, axes_under, cell_with, UpTo}
use Rattle.whole.proofs.Numbers.{numbers-member, member-numbers, at-number}
use Rattle.worst.proofs.StoredSums.{cells_at, up-to-more, up-to-all, sums-counted, internal-past, wind-past}
use Rattle.worst.proofs.AllCells.{WindNumber, InternalNumber, cell-is, own-worst}
use Rattle.worst.proofs.Accepted.{given-sound, last-reading}

-- cells as the engine reckons them: each from the faces under its wind, at its internal coefficient, and none past the
-- internal coefficients
pub record CellsReckoned (b : Building) (profile : List Step) (ws : Winds) (is : Internals) (fs : Faces)
    (h : ℕ → StoredCell) : Type 0 where
  pub each : (w i : ℕ) → w < ws.count → i < is.count
      → h (4 * w + i)
      ≡ cell_with (axes_of b profile (get_or ws.entry w no_wind) (faces_of fs)) (get_or is.entry i (pos 0))
  pub past : (w i : ℕ) → i < 4 → is.count ≤ i → h (4 * w + i) ≡ no_cell

-- what a cell has is the best choice's, on each axis and side
pub on-cell : (axis : Axis) (s : Side) (g : Given) (w i : ℕ)
    → span_side s (span_on axis (cell_of g w i)) ≡ value_of (best_choice s (loads axis g) w i)
on-cell X Greatest g w i = units-pair_of _
on-cell X Least g w i = units-pair_of _
on-cell Y Greatest g w i = units-pair_of _
on-cell Y Least g w i = units-pair_of _
on-cell Z Greatest g w i = units-pair_of _
on-cell Z Least g w i = units-pair_of _

module _ (j : Job) (o : InOrder (carried j)) where
  abbrev g : Given
  g = given (carried j)

  winds : length g.winds ≡ j.winds.count
  unfolding carried
  winds = first_of-length no_wind j.winds.count j.winds.entry

  internals : length g.internals ≡ j.internals.count
  unfolding carried
  internals = first_of-length (pos 0) j.internals.count j.internals.entry

  few-winds : length g.winds ≤ 8
  unfolding carried
  few-winds = o.winds-counted.high

  few-internals : length g.internals ≤ 4
  unfolding carried
  few-internals = o.internals-counted.high

  -- those of a wind and an internal coefficient from 0
  reckoned-cell : (w i : ℕ) → w < j.winds.count → i < j.internals.count
      → sums_at g (4 * w + i)
      ≡ cell_with (axes_under j (get_or j.winds.entry w no_wind)) (get_or j.internals.entry i (pos 0))
  reckoned-cell w i hw hi =
      let wind : WindNumber j (w + 1) =
      member-numbers (w + 1) (length g.winds) 1
      (record { low = omega arith; high = omega (arith, winds) }) in
      let internal : InternalNumber j (i + 1) =
      member-numbers (i + 1) (length g.internals) 1
      (record { low = omega arith; high = omega (arith, internals) }) in
      sums-counted g w i (omega (arith, internals, few-internals)) (omega (arith, winds)) (omega (arith, internals))
      ∙ cell-is j (last-reading j o) (given-sound (carried j) o) (w + 1) (i + 1) wind internal
      ∙ sym (λ k. cell_with (axes_under j (at-number (λ n. get_or j.winds.entry n no_wind) w k))
      (at-number (λ n. get_or j.internals.entry n (pos 0)) i k))

  pub job-reckoned : CellsReckoned j.building (profile_of j) j.winds j.internals j.faces (sums_at g)
  job-reckoned =
      record {
        each = reckoned-cell;
        past = λ w i t p. internal-past g w i t (omega (arith, internals));
      }

  -- and so all are stored, once every wind has been gone through
  pub all-stored : (l : List StoredCell) → UpTo stored_cells (sums_at g) (4 * j.winds.count) l
      → record { cell = l } ≡ stored_of (carried j)
  unfolding stored_of
  all-stored l u =
      up-to-all (sums_at g) l
      (up-to-more stored_cells (sums_at g) (4 * j.winds.count) stored_cells l (omega (arith, winds, few-winds)) u
      (λ k past t. wind-past g k (omega (arith, winds))))

  -- ---- they tell the six extremes

  module _ (axis : Axis) (s : Side) where
    pub own-sum : (w i : ℕ) → WindNumber j w → InternalNumber j i
        → stored_at axis s (stored_of (carried j)) w i ≡ value_of (best_choice s (loads axis g) w i)
    unfolding stored_of
    own-sum w i mw mi =
        let hw = numbers-member (length g.winds) 1 mw in
        let hi = numbers-member (length g.internals) 1 mi in
        let wind : w - 1 + 1 ≡ w = omega (arith, hw.low) in
        let internal : i - 1 + 1 ≡ i = omega (arith, hi.low) in
        ap (λ c. span_side s (span_on axis c))
        (cells_at (sums_at g) (4 * (w - 1) + (i - 1))
        (omega (arith, hw.low, hw.high, hi.low, hi.high, few-winds, few-internals))
        ∙ sums-counted g (w - 1) (i - 1) (omega (arith, hi.low, hi.high, few-internals))
        (omega (arith, hw.low, hw.high)) (omega (arith, hi.low, hi.high))
        ∙ ap₂ (cell_of g) wind internal)
        ∙ on-cell axis s g w i

    own-extreme : extreme_by axis s (stored_of (carried j)) (carried j) ≡ extreme axis s (carried j)
    own-extreme =
        ap (shown (length (carried j).faces))
        (own-worst j (last-reading j o) axis s (given-sound (carried j) o)
        (stored_at axis s (stored_of (carried j))) own-sum)

  pub own-six : six_by (stored_of (carried j)) (carried j) ≡ six_extremes (carried j)
  unfolding six_by six_extremes
  own-six =
      λ k. record {
        x = record { greatest = own-extreme X Greatest k; least = own-extreme X Least k };
        y = record { greatest = own-extreme Y Greatest k; least = own-extreme Y Least k };
        z = record { greatest = own-extreme Z Greatest k; least = own-extreme Z Least k };
      }

  -- and past the counts nothing is stored
  pub past-counts : (k : ℕ) → k < stored_cells → counts g k ≡ false
      → get_or (stored_of (carried j)).cell k no_cell ≡ no_cell
  unfolding stored_of
  past-counts k t e = cells_at (sums_at g) k t ∙ rw e
