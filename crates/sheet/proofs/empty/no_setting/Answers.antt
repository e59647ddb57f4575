-- `no_setting` meets its contract.
use lib.IntN.{pos}
use lib.ListN.{replicate}
use Rattle.whole.specs.Lists.{first_of}
use Rattle.job.specs.Carried.{recorded}
use Rattle.sheet.proofs.empty.no_setting.Goals as goal

pub returns : goal.returns
unfolding recorded first_of
returns c =
    λ i. record {
      year = pos 0;
      building = c.no_building-building.ensures i;
      winds = record { count = 0; entry = replicate 8 (c.no_wind-winds.ensures i) };
      internals = record { count = 0; entry = replicate 4 (pos 0) };
      profile = record { count = 0; entry = replicate 16 (c.no_step-steps.ensures i) };
    }
