-- `judge_section` meets its contract: its count is in order, and so are the first i of its entries.
-- the job as the loop has it, in parts
use lib.ListN.{take}
use Rattle.rules.specs.declared.Before.{Before}
use Rattle.job.specs.declared.Job.{Job}
use Rattle.job.specs.declared.Winds.{Winds}
use Rattle.job.specs.declared.Internals.{Internals}
use Rattle.job.specs.declared.Profile.{Profile}
use Rattle.job.specs.declared.Faces.{Faces}
use Rattle.job.specs.Carried.{Carried, carried}
use Rattle.job.specs.Judging.{JudgesAs}
use Rattle.job.specs.Lines.{entries_of}
use Rattle.job.proofs.Walk.{EntriesInOrder}
use Rattle.job.proofs.judge.judge_section.Given as goal

abbrev pub job_of : Before → Winds → Internals → Profile → Faces → Job
job_of b winds internals profile faces =
    record {
      year = b.year;
      building = b.building;
      winds = winds;
      internals = internals;
      profile = profile;
      faces = faces;
    }

abbrev pub invariant-loop-i : goal.invariant-loop-i
invariant-loop-i l =
    (c : Carried) → JudgesAs l.s l.b c
    → EntriesInOrder l.s c (take l.i (entries_of (carried (job_of l.b l.winds l.internals l.profile l.faces)) l.s))
