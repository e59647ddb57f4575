-- `forces::cell_at` meets its contract: what has a number stands one place before it.
use mathlib.Core.Path.{◌≡◌, refl, sym, ◌∙◌, subst}
use mathlib.Core.List.{List}
use Prim.Native.Nat.{◌-◌, ◌<◌}
use native.Mathlib.Omega.{arith}
use lib.IntN.{ℤ, pos}
use lib.ListN.{get_or}
use mir.Syntax.{w64}
use Rattle.whole.proofs.Size.{Num, num≤, back, bound}
use Rattle.job.specs.declared.Job.{Job}
use Rattle.job.specs.declared.Setting.{Setting}
use Rattle.job.specs.Setting.{setting_in}
use Rattle.job.specs.Carried.{carried, no_wind}
use Rattle.job.specs.InOrder.{InOrder}
use Rattle.worst.specs.Lent.{faces_by, job_by}
use Rattle.worst.specs.Worst.{given}
use Rattle.worst.specs.PerFace.{cell_forces}
use Rattle.worst.specs.Small.{AllMet, Ready}
use Rattle.worst.proofs.Accepted.{job-ready}
use Rattle.worst.proofs.LentFaces.{lent-carried, lent_same, lent-numbered}
use Rattle.worst.proofs.PerFace.{wind-numbered, internal-numbered}
use Rattle.worst.proofs.forces.cell_at.Goals.{After-setting_of, Start}
use Rattle.worst.proofs.forces.cell_at.Goals as goal

module _ (a : Start) where
  ready : Ready a.args.job
  ready = job-ready a.args.job a.requires.0

  wind : a.args.wind - 1 < a.args.job.winds.count
  wind = omega (arith, a.requires.1, a.requires.2)

  inside : a.args.internal - 1 < a.args.job.internals.count
  inside = omega (arith, a.requires.3, a.requires.4)

  abbrev internal : Num
  internal =
      back w64 (num≤ (get_or a.args.job.internals.entry (a.args.internal - 1) (pos 0))
      (ready.internals.1 (a.args.internal - 1) inside)) tt

-- the faces laid there are those of the job
module _ (g : After-setting_of) where
  abbrev a : Start
  a = (goal.at.After-setting_of g).Start

  abbrev job : Job
  job = a.args.job

  abbrev lent : List ℤ
  lent = g.lay.new.flat

  abbrev job_with : Setting → Job
  job_with s = job_by s job.faces.count lent

  laid : carried (job_with (setting_in job)) ≡ carried job
  laid = lent-carried job lent g.lay.ensures.1

  same : carried (job_with g.setting_of.result) ≡ carried job
  same = lent_same job g.setting_of.result lent g.setting_of.ensures g.lay.ensures.1

  met : AllMet g.setting_of.result.building (faces_by job.faces.count lent)
      (get_or job.winds.entry (a.args.wind - 1) no_wind)
  met =
      let order = subst InOrder (sym laid) a.requires.0 in
      let w = get_or job.winds.entry (a.args.wind - 1) no_wind in
      subst (λ (s : Setting). AllMet s.building (faces_by job.faces.count lent) w) (sym g.setting_of.ensures)
      ((job-ready (job_with (setting_in job)) order).met (a.args.wind - 1) (wind a))

pub lay-requires : goal.lay-requires
lay-requires c = ((ready (goal.at.lay-requires c).Start).profiled.few, refl)

pub bounds-winds-w : goal.bounds-winds-w
bounds-winds-w c =
    let at_start = (goal.at.bounds-winds-w c).Start in
    omega (arith, wind at_start, (ready at_start).winds)

pub bounds-internals-i : goal.bounds-internals-i
bounds-internals-i c =
    let at_start = (goal.at.bounds-internals-i c).Start in
    omega (arith, inside at_start, (ready at_start).internals.0)

pub cell-requires : goal.cell-requires
cell-requires c =
    let at_start = (goal.at.cell-requires c).Start in
    let at_setting_of = (goal.at.cell-requires c).After-setting_of in (
      lent-numbered (job at_setting_of).faces.count (lent at_setting_of) (ready at_start).profiled.few c.lay.ensures.0,
      subst InOrder (sym (same at_setting_of)) c.requires.0,
      met at_setting_of,
      bound (internal at_start),
    )

pub returns : goal.returns
returns c =
    let at_start = (goal.at.returns c).Start in
    let at_setting_of = (goal.at.returns c).After-setting_of in
    let s = c.args in
    let p = c.requires in
    let w = wind-numbered s.job s.wind s.internal p.1 p.2 in
    let i = internal-numbered s.job s.wind s.internal p.3 p.4 in
    let there = get_or s.job.winds.entry (s.wind - 1) no_wind in
    ◌∙◌ {b = cell_forces (given (carried (job_with at_setting_of c.setting_of.result))) there (internal at_start).has}
    c.cell.ensures (λ k. cell_forces (given (same at_setting_of k)) (sym w k) (((internal at_start).same ∙ sym i) k))
