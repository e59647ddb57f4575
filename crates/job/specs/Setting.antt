-- A job in two parts: its faces, and all else of it, its setting.
use Rattle.job.specs.declared.Job.{Job}
use Rattle.job.specs.declared.Setting.{Setting}
use Rattle.job.specs.declared.Faces.{Faces}

-- with faces as a record
abbrev pub record_with : Setting → Faces → Job
record_with s faces =
    record {
      year = s.year;
      building = s.building;
      winds = s.winds;
      internals = s.internals;
      profile = s.profile;
      faces = faces;
    }

-- the setting of a record
abbrev pub setting_in : Job → Setting
setting_in j =
    record {
      year = j.year;
      building = j.building;
      winds = j.winds;
      internals = j.internals;
      profile = j.profile;
    }
