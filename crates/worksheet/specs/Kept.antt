-- The sums that a worksheet stores, after an edit: it takes the old face's part out of each cell and puts the new
-- one's in.
use Rattle.std.specs.Prelude.{Bool, cond, List, [], ◌∷◌, ℕ, ◌-◌, ℤ, nat_abs, take, drop, get_or}
use Rattle.pair.specs.declared.Pair.{Pair}
use Rattle.pair.specs.Total.{pair_sum, pair_difference}
use Rattle.building.specs.Year.{has_heights}
use Rattle.entry.specs.declared.Face.{Face}
use Rattle.entry.specs.Says.{carried_face}
use Rattle.job.specs.Carried.{Carried, carried, with_faces}
use Rattle.worst.specs.declared.Span.{Span}
use Rattle.worst.specs.declared.StoredCell.{StoredCell}
use Rattle.worst.specs.declared.Stored.{Stored}
use Rattle.worst.specs.Stored.{no_cell, cells_of, stored_of}
use Rattle.worst.specs.Within.{most_newtons, all_within}
use Rattle.edits.specs.Edits.{Edit, Add, Replace, TakeOut, edit_faces, job_with}
use Rattle.worksheet.specs.declared.Worksheet.{Worksheet}

-- ---- the faces that an edit moves

-- face k of these, from 1
abbrev pub face : ℤ → List Face → List Face
face k fs = take 1 (drop (nat_abs k - 1) fs)

-- the one that it takes out
abbrev pub leaving : Edit → List Face → List Face
leaving (Add f) fs = []
leaving (Replace k f) fs = face k fs
leaving (TakeOut k) fs = face k fs

-- and the one that it puts in, as the sheet of that year carries it
abbrev pub coming : Bool → Edit → List Face
coming heights (Add f) = carried_face heights f ∷ []
coming heights (Replace k f) = carried_face heights f ∷ []
coming heights (TakeOut k) = []

-- their part: the sums of the same job with these faces alone
abbrev pub part_of_faces : Carried → List Face → Stored
part_of_faces c fs = stored_of (with_faces fs c)

-- ---- cell by cell

abbrev pub moved_pair : Pair → Pair → Pair → Pair
moved_pair held out new = pair_sum (pair_difference held out) new

abbrev pub moved_span : Span → Span → Span → Span
moved_span held out new =
    record {
      greatest = moved_pair held.greatest out.greatest new.greatest;
      least = moved_pair held.least out.least new.least;
    }

abbrev pub moved_cell : StoredCell → StoredCell → StoredCell → StoredCell
moved_cell held out new =
    record {
      x = moved_span held.x out.x new.x;
      y = moved_span held.y out.y new.y;
      z = moved_span held.z out.z new.z;
    }

abbrev pub cell_at : Stored → ℕ → StoredCell
cell_at t k = get_or t.cell k no_cell

-- one part taken out of what is held, and one put in
unfoldable pub moved : Stored → Stored → Stored → Stored
moved held out new = cells_of (λ k. moved_cell (cell_at held k) (cell_at out k) (cell_at new k))

-- ---- after an edit that is not refused

-- where a stored sum lies beyond what a job of the year can have, all are reckoned anew
unfoldable pub sums_after : Edit → Worksheet → Stored
sums_after e w =
    let j = w.job in
    let c = carried j in
    let out = part_of_faces c (leaving e c.faces) in
    let new = part_of_faces c (coming (has_heights j.year) e) in
    cond (all_within (most_newtons j.year) w.sums.cell) (moved w.sums out new)
    (stored_of (carried (job_with (edit_faces e j) j)))
