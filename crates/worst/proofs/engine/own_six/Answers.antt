-- `engine::own_six` meets its contract: a job's own sums tell its six extremes.
use mathlib.Core.Path.{sym, ◌∙◌, subst}
use native.Mathlib.Omega.{arith}
use Rattle.job.specs.declared.Job.{Job}
use Rattle.job.specs.Carried.{carried}
use Rattle.worst.specs.declared.Axis.{Axis}
use Rattle.worst.specs.declared.Side.{Side}
use Rattle.worst.specs.Stored.{stored_of}
use Rattle.worst.specs.Engine.{top_at}
use Rattle.worst.specs.Lent.{job_by}
use Rattle.worst.specs.Factors.{Fraction}
use Rattle.worst.specs.Small.{Ready}
use Rattle.worst.proofs.Found.{IsTop, is-top}
use Rattle.worst.proofs.AllCells.{six-are}
use Rattle.worst.proofs.Accepted.{job-ready, given-sound, last-reading}
use Rattle.worst.proofs.JobSums.{own-six}
use Rattle.worst.proofs.engine.own_six.Goals.{After-best-ends, After-fill, Start}
use Rattle.worst.proofs.engine.own_six.Goals as goal

abbrev job : Start → Job
job a = job_by a.args.s a.args.faces a.args.flat.now

ready : (a : Start) → Ready (job a)
ready a = job-ready (job a) a.requires.2

-- what was found, as the best of the job's own sums
module _ (c : After-best-ends) where
  abbrev f : After-fill
  f = (goal.at.After-best-ends c).After-fill

  abbrev a : Start
  a = (goal.at.After-fill f).Start

  top : (axis : Axis) (s : Side)
      → IsTop axis s (stored_of (carried (job a))) (job a) (ready a) (top_at axis s c.best-ends.result)
  top axis s =
      is-top axis s (stored_of (carried (job a))) (job a) (ready a) (top_at axis s c.best-ends.result)
      (c.best-ends.ensures.0 axis s)

pub fill-requires : goal.fill-requires
fill-requires c =
    (c.requires.0, c.requires.1, (ready (goal.at.fill-requires c).Start).profiled)

pub best-ends-requires : goal.best-ends-requires
best-ends-requires c =
    let lent = c.requires.0 in (
      record {
        numbered = lent.numbered;
        room = omega (arith, c.fill.auto, lent.room);
      },
      c.requires.2,
      c.fill.ensures,
      c.new-table.ensures,
    )

pub shown-requires : goal.shown-requires
shown-requires c =
    let at_start = (goal.at.shown-requires c).Start in
    let lent = c.requires.0 in (
      record {
        numbered = lent.numbered;
        room = omega (arith, c.fill.auto, lent.room);
      },
      ready at_start,
      λ i t. subst Fraction (sym (c.fill.ensures i t)) ((ready at_start).factors i t),
      c.fill.ensures,
      λ axis s. (top (goal.at.shown-requires c).After-best-ends axis s).on_job,
      c.best-ends.ensures.2,
    )

pub returns : goal.returns
returns c =
    let j = job (goal.at.returns c).Start in
    let o = c.requires.2 in
    c.shown.ensures
    ∙ six-are j (last-reading j o) (given-sound (carried j) o) (stored_of (carried j)) c.best-ends.result
    c.best-ends.ensures.1 (λ axis s. (top (goal.at.returns c).After-best-ends axis s).best)
    ∙ own-six j o
