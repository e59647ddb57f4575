-- `put_numbers` meets its contract: six stores, one after another.
use mathlib.Core.Path.{◌≡◌}
use lib.ListN.{take}
use lib.Seq.{sets}
use Rattle.sheet.proofs.flat.put_numbers.Given as goal

abbrev pub invariant-loop-k : goal.invariant-loop-k
invariant-loop-k l = l.flat ≡ sets l.initial.flat l.at (take l.k l.v)
