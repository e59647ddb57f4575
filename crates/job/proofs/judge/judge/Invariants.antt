-- `judge` meets its contract: what comes of the sections from i on is what comes of the whole sheet.
use Prim.Native.Nat.{◌≤◌, ◌-◌}
use Rattle.job.proofs.Judged.{Reached}
use Rattle.job.proofs.judge.judge.Given as goal

abbrev pub invariant-loop-i : goal.invariant-loop-i
invariant-loop-i l = (l.i ≤ l.i-end) × Reached l.j l.i l.line
