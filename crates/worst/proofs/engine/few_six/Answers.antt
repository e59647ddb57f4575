-- `engine::few_six` meets its contract: a job's own sums tell its six extremes, and in the shorter lists there is room
-- for every face.
use mathlib.Core.Path.{refl, sym, ◌∙◌, subst}
use native.Mathlib.Omega.{arith}
use Rattle.job.specs.declared.Job.{Job}
use Rattle.job.specs.Carried.{carried}
use Rattle.worst.specs.declared.Axis.{Axis}
use Rattle.worst.specs.declared.Side.{Side}
use Rattle.worst.specs.Stored.{stored_of}
use Rattle.worst.specs.Engine.{top_at}
use Rattle.worst.specs.Lent.{job_by, Lent}
use Rattle.worst.specs.Factors.{Fraction}
use Rattle.worst.specs.Small.{Ready}
use Rattle.worst.proofs.Found.{IsTop, is-top}
use Rattle.worst.proofs.AllCells.{six-are}
use Rattle.worst.proofs.Accepted.{job-ready, given-sound, last-reading}
use Rattle.worst.proofs.JobSums.{own-six}
use Rattle.worst.proofs.engine.few_six.Goals.{After-few_best-ends, After-fill, Start}
use Rattle.worst.proofs.engine.few_six.Goals as goal

abbrev job : Start → Job
job a = job_by a.args.s a.args.faces a.args.flat.now

ready : (a : Start) → Ready (job a)
ready a = job-ready (job a) a.requires.2

-- the lists of factors have room for every face
module _ (f : After-fill) where
  abbrev a : Start
  a = (goal.at.After-fill f).Start

  lent : Lent a.args.faces a.args.flat.now f.fill.new.factors
  lent =
      let few = a.requires.0 in
      record {
        numbered = a.requires.1;
        room = omega (arith, f.fill.auto);
      }

-- what was found, as the best of the job's own sums
module _ (c : After-few_best-ends) where
  abbrev f : After-fill
  f = (goal.at.After-few_best-ends c).After-fill

  abbrev j : Job
  j = job (goal.at.After-fill f).Start

  top : (axis : Axis) (s : Side)
      → IsTop axis s (stored_of (carried j)) j (ready (goal.at.After-fill f).Start)
      (top_at axis s c.few_best-ends.result)
  top axis s =
      is-top axis s (stored_of (carried j)) j (ready (goal.at.After-fill f).Start)
      (top_at axis s c.few_best-ends.result)
      (c.few_best-ends.ensures.0 axis s)

pub fill-requires : goal.fill-requires
fill-requires c =
    let few = c.requires.0 in (
      record { numbered = c.requires.1; room = omega arith },
      refl,
      (ready (goal.at.fill-requires c).Start).profiled,
    )

pub few_best-ends-requires : goal.few_best-ends-requires
few_best-ends-requires c =
    let at_fill = (goal.at.few_best-ends-requires c).After-fill in
    (c.requires.0, lent at_fill, c.requires.2, c.fill.ensures, c.new-table.ensures)

pub shown-requires : goal.shown-requires
shown-requires c =
    let at_start = (goal.at.shown-requires c).Start in (
      lent (goal.at.shown-requires c).After-fill,
      ready at_start,
      λ i t. subst Fraction (sym (c.fill.ensures i t)) ((ready at_start).factors i t),
      c.fill.ensures,
      λ axis s. (top (goal.at.shown-requires c).After-few_best-ends axis s).on_job,
      c.few_best-ends.ensures.2,
    )

pub returns : goal.returns
returns c =
    let at_few_best_ends = (goal.at.returns c).After-few_best-ends in
    let o = c.requires.2 in
    c.shown.ensures
    ∙ six-are (j at_few_best_ends) (last-reading (j at_few_best_ends) o) (given-sound (carried (j at_few_best_ends)) o)
    (stored_of (carried (j at_few_best_ends)))
    c.few_best-ends.result c.few_best-ends.ensures.1 (λ axis s. (top at_few_best_ends axis s).best)
    ∙ own-six (j at_few_best_ends) o
