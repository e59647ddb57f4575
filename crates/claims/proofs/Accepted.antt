-- What an accepted job carries is in order, and its six extremes are what the definition of the worst cases says of
-- one axis and one side.
use mathlib.Core.Path.{◌≡◌, ap}
use mathlib.Core.List.{List}
use Prim.Native.Nat.{ℕ}
use Rattle.std.specs.Prelude.{Ok}
use Rattle.job.specs.declared.Job.{Job}
use Rattle.job.specs.Carried.{Carried, carried}
use Rattle.job.specs.Lines.{lines_of}
use Rattle.job.specs.InOrder.{InOrder}
use Rattle.job.specs.Walk.{Accepted, judged}
use Rattle.job.proofs.InOrder.{accepted-in-order}
use Rattle.lines.specs.Lines.{lines_in}
use Rattle.sheet.specs.Sheet.{reading}
use Rattle.worst.specs.Worst.{six_extremes, reckoned, worst_of}

pub job-in-order : (j : Job) (c : Carried) → judged j ≡ Accepted c → InOrder c
unfolding judged
job-in-order j c a = accepted-in-order (lines_of (carried j)) c a

pub sheet-in-order : (s : List ℕ) (c : Carried) → reading s ≡ Accepted c → InOrder c
unfolding reading
sheet-in-order s c a = accepted-in-order (lines_in s) c a

pub six-is : (j : Job) (c : Carried) → judged j ≡ Accepted c
    → worst_of j ≡ Ok (record { year = c.year; six = six_extremes c })
unfolding worst_of
six-is j c a = ap reckoned a
