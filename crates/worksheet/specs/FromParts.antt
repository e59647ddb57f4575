-- The sums of a worksheet after an edit, from the parts of its faces. Only contracts of private functions cite it.
use Rattle.std.specs.Prelude.{cond}
use Rattle.job.specs.declared.Job.{Job}
use Rattle.job.specs.Walk.{judged}
use Rattle.worst.specs.declared.Stored.{Stored}
use Rattle.worst.specs.Stored.{stored_in}
use Rattle.worst.specs.Within.{most_newtons, all_within}
use Rattle.worksheet.specs.Kept.{moved}

-- from those held before the edit, the job after it, and the parts that it takes out and puts in
abbrev pub kept_of : Stored → Job → Stored → Stored → Stored
kept_of held after out new =
    cond (all_within (most_newtons after.year) held.cell) (moved held out new) (stored_in (judged after))
