-- `fill` stays within its buffer.
use Rattle.std.proofs.Common.{◌-◌, ◌≤◌, length}
use Rattle.cases.proofs.sheets.fill.Given as goal

abbrev pub invariant-loop-got : goal.invariant-loop-got
invariant-loop-got g l = l.got ≤ length l.buf

abbrev pub decreases-loop-got : goal.decreases-loop-got
decreases-loop-got g l = length l.buf - l.got
