-- `put_section` meets its contract: the count is written, and so are the first i entries.
use lib.ListN.{take}
use Rattle.lines.specs.Lines.{text_of_lines}
use Rattle.page.specs.Writing.{Put}
use Rattle.job.specs.Carried.{carried}
use Rattle.job.specs.Lines.{entries_of}
use Rattle.sheet_written.proofs.put_section.Given as goal

abbrev pub invariant-loop-i : goal.invariant-loop-i
invariant-loop-i l =
    Put l.initial.buf l.initial.next (text_of_lines (take l.i (entries_of (carried l.j) l.sec))) l.buf l.next
