-- `numbers_at` meets its contract: the text passed is that of the numbers read, with a space between two and LF behind
-- the last.
use Prim.Native.Nat.{ℕ, ◌≤◌, ◌<◌}
use mathlib.Core.Path.{◌≡◌}
use mathlib.Core.Bool.{cond}
use mathlib.Core.List.{◌++◌}
use lib.Dec.{eqb}
use lib.IntN.{pos}
use lib.ListN.{length, get_or, take, drop}
use Rattle.whole.specs.Lists.{Every}
use Rattle.sheet.specs.Said.{Short}
use Rattle.sheet.proofs.Plain.{passed}
use Rattle.sheet.proofs.plainly.numbers_at.Given as goal

abbrev pub invariant-loop-k : goal.invariant-loop-k
invariant-loop-k l =
    (length l.number ≡ 6) × (l.next ≤ length l.s) × (l.k < l.count → l.next < length l.s)
    × ((i : ℕ) → l.k ≤ i → i < 6 → get_or l.number i (pos 0) ≡ pos 0) × Every Short (take l.k l.number)
    × (drop l.at l.s ≡ passed (cond (eqb l.k l.count) 10 32) (take l.k l.number) ++ drop l.next l.s)
