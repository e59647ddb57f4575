-- `reckon::six_stored` meets its contract: what stored sums tell of the same job, its faces laid out.
use mathlib.Core.Path.{◌≡◌, refl, sym, ap, ◌∙◌, subst}
use native.Mathlib.Omega.{arith}
use Rattle.job.specs.Carried.{carried}
use Rattle.job.specs.InOrder.{InOrder}
use Rattle.worst.specs.Stored.{six_by}
use Rattle.worst.specs.Lent.{job_by}
use Rattle.worst.proofs.Accepted.{job-ready}
use Rattle.worst.proofs.LentFaces.{lent-carried}
use Rattle.worst.proofs.reckon.six_stored.Goals.{After-lay, After-setting_of, Start}
use Rattle.worst.proofs.reckon.six_stored.Goals as goal

-- the setting, and the faces laid out beside it
module _ (d : After-setting_of) where
  abbrev laid : After-lay
  laid = (goal.at.After-setting_of d).After-lay

  abbrev start : Start
  start = (goal.at.After-lay laid).Start

  same : carried (job_by d.setting_of.result start.args.job.faces.count laid.lay.new.flat)
      ≡ carried start.args.job
  same =
      ap (λ s. carried (job_by s start.args.job.faces.count laid.lay.new.flat)) d.setting_of.ensures
      ∙ lent-carried start.args.job laid.lay.new.flat laid.lay.ensures.1

pub lay-requires : goal.lay-requires
lay-requires c = ((job-ready c.args.job c.requires.0).profiled.few, refl)

pub six_by-requires : goal.six_by-requires
six_by-requires c =
    let few = (job-ready c.args.job c.requires.0).profiled.few in (
      record { few = few; stand = omega (arith, c.lay.ensures.0) },
      subst InOrder (sym (same (goal.at.six_by-requires c).After-setting_of)) c.requires.0,
      c.requires.1,
    )

pub returns : goal.returns
returns c = c.six_by.ensures ∙ ap (six_by c.args.stored) (same (goal.at.returns c).After-setting_of)
