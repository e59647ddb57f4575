-- A setting in the parts that are read one by one. Only contracts of private functions cite it.
use Rattle.rules.specs.declared.Before.{Before}
use Rattle.job.specs.declared.Setting.{Setting}
use Rattle.job.specs.declared.Winds.{Winds}
use Rattle.job.specs.declared.Internals.{Internals}
use Rattle.job.specs.declared.Profile.{Profile}

abbrev pub setting_of : Before → Winds → Internals → Profile → Setting
setting_of b winds internals profile =
    record {
      year = b.year;
      building = b.building;
      winds = winds;
      internals = internals;
      profile = profile;
    }
