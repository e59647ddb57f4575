-- `line_of`: the first i fields stand in the line.
use Rattle.std.proofs.Common.{◌≡◌, map, take}
use lib.Seq.{sets}
use Rattle.lines.specs.Held.{blank, slot}
use Rattle.entry_written.proofs.line_of.Given as goal

abbrev pub invariant-loop-i : goal.invariant-loop-i
invariant-loop-i l = l.fields ≡ sets blank 0 (map slot (take l.i l.given))
