-- `engine::six_by` meets its contract: the tops that are shown are the furthest of the stored sums.
use mathlib.Core.Path.{refl, sym, ◌∙◌, subst}
use native.Mathlib.Omega.{arith}
use Rattle.job.specs.declared.Job.{Job}
use Rattle.job.specs.Carried.{carried}
use Rattle.worst.specs.declared.Axis.{Axis}
use Rattle.worst.specs.declared.Side.{Side}
use Rattle.worst.specs.Engine.{top_at}
use Rattle.worst.specs.Lent.{job_by}
use Rattle.worst.specs.Factors.{Fraction}
use Rattle.worst.specs.Small.{Ready}
use Rattle.worst.proofs.Found.{IsTop, is-top}
use Rattle.worst.proofs.AllCells.{six-are}
use Rattle.worst.proofs.Accepted.{job-ready, given-sound, last-reading}
use Rattle.worst.proofs.engine.six_by.Goals.{After-over_winds-ends, Start}
use Rattle.worst.proofs.engine.six_by.Goals as goal

abbrev job : Start → Job
job a = job_by a.args.s a.args.faces a.args.flat.now

ready : (a : Start) → Ready (job a)
ready a = job-ready (job a) a.requires.1

top : (c : After-over_winds-ends) (axis : Axis) (s : Side)
    → IsTop axis s c.args.stored (job (goal.at.After-over_winds-ends c).Start)
    (ready (goal.at.After-over_winds-ends c).Start)
    (top_at axis s c.over_winds-ends.result)
top c axis s =
    let at_start = (goal.at.After-over_winds-ends c).Start in
    is-top axis s c.args.stored (job at_start) (ready at_start) (top_at axis s c.over_winds-ends.result)
    (c.over_winds-ends.ensures.0 axis s)

pub over_winds-ends-requires : goal.over_winds-ends-requires
over_winds-ends-requires a = ((ready a).winds, (ready a).internals.0, a.requires.2)

pub fill-requires : goal.fill-requires
fill-requires c =
    let few = c.requires.0.few in (
      record { numbered = c.requires.0; room = omega arith },
      refl,
      (ready (goal.at.fill-requires c).Start).profiled,
    )

pub shown-requires : goal.shown-requires
shown-requires c =
    let at_start = (goal.at.shown-requires c).Start in
    let few = c.requires.0.few in (
      record {
        numbered = c.requires.0;
        room = omega (arith, c.fill.auto);
      },
      ready at_start,
      λ i t. subst Fraction (sym (c.fill.ensures i t)) ((ready at_start).factors i t),
      c.fill.ensures,
      λ axis s. (top (goal.at.shown-requires c).After-over_winds-ends axis s).on_job,
      c.new-table.ensures,
    )

pub returns : goal.returns
returns c =
    let at_over_winds_ends = (goal.at.returns c).After-over_winds-ends in
    let j = job (goal.at.returns c).Start in
    c.shown.ensures
    ∙ six-are j (last-reading j c.requires.1) (given-sound (carried j) c.requires.1) c.args.stored
    c.over_winds-ends.result c.over_winds-ends.ensures.1 (λ axis s. (top at_over_winds_ends axis s).best)
