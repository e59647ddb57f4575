-- `put_sheet` meets its contract: the first i sections are written.
use Prim.Native.Nat.{◌≤◌, ◌-◌}
use Rattle.building.specs.Year.{has_heights}
use Rattle.job.specs.Carried.{carried}
use Rattle.job.specs.Lines.{entries_of}
use Rattle.sheet_written.proofs.Puts.{PutSections}
use Rattle.sheet_written.proofs.put_sheet.Given as goal

abbrev pub invariant-loop-i : goal.invariant-loop-i
invariant-loop-i l =
    (l.i ≤ l.i-end) × PutSections (entries_of (carried l.j)) (has_heights l.j.year) l.i l.initial.buf l.buf l.next
