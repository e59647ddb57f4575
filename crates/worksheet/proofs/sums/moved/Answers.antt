-- `sums::moved`: the cells before the next stand as they are to.
use mathlib.Core.Path.{◌≡◌, ◌∙◌}
use native.Mathlib.Omega.{arith}
use lib.ListN.{get_or, set, length-set}
use lib.Seq.{get_or-set_same, get_or-set_other}
use Rattle.worst.specs.Stored.{no_cell}
use Rattle.worst.proofs.StoredSums.{cells-by}
use Rattle.whole.proofs.Numbers.{below_next}
use Rattle.worksheet.specs.Kept as kept
use Rattle.worksheet.specs.Kept.{moved_cell}
use Rattle.worksheet.proofs.sums.moved.Invariants.{moves}
use Rattle.worksheet.proofs.sums.moved.Goals as goal

pub loop-k-init : goal.loop-k-init
loop-k-init c =
    let room = c.well_formed.0.1.1.0.1.0.1 in
    record { long = room; moved = λ i t. absurd (omega arith) }

pub loop-k-preserved : goal.loop-k-preserved
loop-k-preserved c =
    let a = c.args in
    let k = c.loop-k.k in
    let cells = c.loop-k.all.cell in
    let cell = c.moved_cell.result in
    let inv = c.loop-k.invariant in
    record {
      long = length-set cells k cell ∙ inv.long;
      moved =
          below_next (λ i. get_or (set cells k cell) i no_cell ≡ moves a.held a.out a.new i) k
          (λ i t. get_or-set_other cells k i cell no_cell (λ e. absurd (omega (arith, e))) ∙ inv.moved i t)
          (get_or-set_same cells k cell no_cell (omega arith) ∙ c.moved_cell.ensures);
    }

pub returns : goal.returns
unfolding kept.moved
returns c =
    let l = c.loop-k in
    let a = c.args in
    cells-by (moves a.held a.out a.new) l.all.cell l.invariant.long (λ k t. l.invariant.moved k (omega arith))
