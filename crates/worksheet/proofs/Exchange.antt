-- Sums that are kept are those reckoned anew: a part taken out of each cell and another put in, for faces in the place
-- of others.
use mathlib.Core.Path.{◌≡◌, refl, sym, ap, ◌∙◌}
use mathlib.Core.List.{List, [], ◌++◌}
use Prim.Native.Nat.{ℕ, ◌+◌, ◌/◌, ◌%◌, ◌<◌}
use Rattle.whole.proofs.Tests.{by-test}
use Rattle.pair.specs.declared.Pair.{Pair}
use Rattle.pair.specs.Total.{pair_of}
use Rattle.pair.proofs.Units.{proper-pair_of, pair_of-units}
use Rattle.entry.specs.declared.Face.{Face}
use Rattle.job.specs.Carried.{Carried, with_faces}
use Rattle.job.specs.InOrder.{InOrder}
use Rattle.worst.specs.declared.Side.{Side}
use Rattle.worst.specs.declared.Side.TheVariants.{Greatest, Least}
use Rattle.worst.specs.declared.Axis.{Axis}
use Rattle.worst.specs.declared.Axis.TheVariants.{X, Y, Z}
use Rattle.worst.specs.declared.StoredCell.{StoredCell}
use Rattle.worst.specs.Forces.{Given}
use Rattle.worst.specs.Proper.{ProperSpan, ProperCell}
use Rattle.worst.specs.Stored.{stored_cells, span_of, no_cell, none_stored, counts, stored_of, sums_at}
use Rattle.worst.specs.Stored.{span_on, span_side}
use Rattle.worst.specs.Within.{all_within}
use Rattle.worst.specs.Worst.{given}
use Rattle.worst.proofs.StoredSums.{cells_at, cells_same}
use Rattle.worst.proofs.ProperSums.{within-proper}
use Rattle.worst.proofs.Parts.{stored_on, on_none, parts-exchanged, no_part}
use Rattle.worksheet.specs.Kept.{moved_pair, moved_cell, cell_at, moved, part_of_faces}
use Rattle.worksheet.proofs.Bounds.{SumsSmall, in-order-small, moved-pair_of}

-- ---- a cell by its six pairs

abbrev pair_on : Axis → Side → StoredCell → Pair
pair_on X Greatest t = t.x.greatest
pair_on X Least t = t.x.least
pair_on Y Greatest t = t.y.greatest
pair_on Y Least t = t.y.least
pair_on Z Greatest t = t.z.greatest
pair_on Z Least t = t.z.least

cell-by : (t u : StoredCell) → ((axis : Axis) (s : Side) → pair_on axis s t ≡ pair_on axis s u) → t ≡ u
cell-by t u h =
    λ j. record {
      x = record { greatest = h X Greatest j; least = h X Least j };
      y = record { greatest = h Y Greatest j; least = h Y Least j };
      z = record { greatest = h Z Greatest j; least = h Z Least j };
    }

-- each is moved by itself
on-moved : (axis : Axis) (s : Side) (t u v : StoredCell)
    → pair_on axis s (moved_cell t u v) ≡ moved_pair (pair_on axis s t) (pair_on axis s u) (pair_on axis s v)
on-moved X Greatest t u v = refl
on-moved X Least t u v = refl
on-moved Y Greatest t u v = refl
on-moved Y Least t u v = refl
on-moved Z Greatest t u v = refl
on-moved Z Least t u v = refl

-- each is the pair of its total
on-proper : (axis : Axis) (s : Side) (t : StoredCell) → ProperCell t
    → pair_on axis s t ≡ pair_of (span_side s (span_on axis t))
on-proper X Greatest t h = sym (pair_of-units t.x.greatest h.x.greatest)
on-proper X Least t h = sym (pair_of-units t.x.least h.x.least)
on-proper Y Greatest t h = sym (pair_of-units t.y.greatest h.y.greatest)
on-proper Y Least t h = sym (pair_of-units t.y.least h.y.least)
on-proper Z Greatest t h = sym (pair_of-units t.z.greatest h.z.greatest)
on-proper Z Least t h = sym (pair_of-units t.z.least h.z.least)

none-proper : ProperCell no_cell
unfolding all_within
none-proper = within-proper 0 [] refl 0

own-proper : (g : Given) (k : ℕ) → ProperCell (sums_at g k)
own-proper g k =
    by-test (counts g k)
    (λ t. let w = k / 4 + 1 in let i = k % 4 + 1 in rw t (record { x = span X w i; y = span Y w i; z = span Z w i }))
    (λ t. rw t none-proper)
  where
    span : (axis : Axis) (w i : ℕ) → ProperSpan (span_of axis g w i)
    span axis w i = record { greatest = proper-pair_of _; least = proper-pair_of _ }

on-own : (axis : Axis) (s : Side) (c : Carried) (k : ℕ)
    → pair_on axis s (sums_at (given c) k) ≡ pair_of (stored_on axis s c k)
on-own axis s c k = on-proper axis s (sums_at (given c) k) (own-proper (given c) k)

-- ---- all cells

abbrev cell : Carried → List Face → ℕ → StoredCell
cell c fs k = sums_at (given (with_faces fs c)) k

pub moved-stored : (c : Carried) (pre out new post : List Face) → InOrder (with_faces (pre ++ (out ++ post)) c)
    → InOrder (with_faces (pre ++ (new ++ post)) c) → SumsSmall c out → SumsSmall c new
    → moved (stored_of (with_faces (pre ++ (out ++ post)) c)) (part_of_faces c out) (part_of_faces c new)
    ≡ stored_of (with_faces (pre ++ (new ++ post)) c)
unfolding moved stored_of
moved-stored c pre out new post before after small-out small-new =
    let at : (fs : List Face) (k : ℕ) → k < stored_cells → cell_at (part_of_faces c fs) k ≡ cell c fs k =
    λ fs k t. cells_at (cell c fs) k t in
    cells_same _ _
    (λ k t.
    (λ j. moved_cell (at (pre ++ (out ++ post)) k t j) (at out k t j) (at new k t j))
    ∙ cell-by _ _ (λ axis s. on axis s k))
  where
    on : (axis : Axis) (s : Side) (k : ℕ)
        → pair_on axis s (moved_cell (cell c (pre ++ (out ++ post)) k) (cell c out k) (cell c new k))
        ≡ pair_on axis s (cell c (pre ++ (new ++ post)) k)
    on axis s k =
        let own : (fs : List Face) → pair_on axis s (cell c fs k) ≡ pair_of (stored_on axis s (with_faces fs c) k) =
        λ fs. on-own axis s (with_faces fs c) k in
        on-moved axis s _ _ _
        ∙ (λ j. moved_pair (own (pre ++ (out ++ post)) j) (own out j) (own new j))
        ∙ moved-pair_of _ _ _ (in-order-small c (pre ++ (out ++ post)) before axis s k) (small-out axis s k)
        (small-new axis s k)
        ∙ ap pair_of (sym (parts-exchanged c pre out new post before after axis s k))
        ∙ sym (own (pre ++ (new ++ post)))

-- the part of no faces is nothing
pub none-part : (c : Carried) → part_of_faces c [] ≡ none_stored
unfolding stored_of
none-part c =
    cells_same _ _
    (λ k t. cell-by _ _
    (λ axis s.
    on-own axis s (with_faces [] c) k ∙ ap pair_of (no_part c axis s k ∙ sym (on_none axis s))
    ∙ sym (on-proper axis s no_cell none-proper)))
