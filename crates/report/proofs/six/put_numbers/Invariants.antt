-- `put_numbers` meets its contract: after so many turns as many numbers are put.
use Prim.Native.Nat.{◌+◌, ◌*◌}
use mathlib.Core.Path.{◌≡◌}
use lib.ListN.{take}
use Rattle.page.specs.Writing.{Put}
use Rattle.report.specs.Lines.{spaced}
use Rattle.report.proofs.six.put_numbers.Given as goal

abbrev pub invariant-loop-n : goal.invariant-loop-n
invariant-loop-n l = record {
  place : l.next ≡ l.at + 2 * l.n-index;
  bytes : Put l.initial.buf l.at (spaced (take l.n-index l.ns)) l.buf l.next;
}
