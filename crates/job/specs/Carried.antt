-- All that a sheet carries: the year, the building, and the winds, internal coefficients, steps of the profile and
-- faces, each as a list; and what a line is judged by where this was read before it.
use Rattle.std.specs.Prelude.{ℕ, ◌≡◌, List, [], ◌∷◌, map, cond, ℤ, pos, neg_ℤ, length}
use Rattle.whole.specs.Lists.{first_of}
use Rattle.building.specs.declared.Building.{Building}
use Rattle.entry.specs.declared.Wind.{Wind}
use Rattle.entry.specs.declared.Step.{Step}
use Rattle.entry.specs.declared.Face.{Face}
use Rattle.building.specs.Year.{has_heights}
use Rattle.entry.specs.Says.{carried_face}
use Rattle.rules.specs.declared.Before.{Before}
use Rattle.rules.specs.declared.Section.{Section}
use Rattle.rules.specs.declared.Section.TheVariants.{«V», B, W, I, P, F}
use Rattle.job.specs.declared.Job.{Job}

pub record Carried : Type 0 where
  pub year : ℤ
  pub building : Building
  pub winds : List Wind
  pub internals : List ℤ
  pub profile : List Step
  pub faces : List Face

abbrev pub no_building : Building
no_building = record { h = pos 0; a = pos 0; b = pos 0; density = pos 0; kind = pos 0; x = pos 0 }

abbrev pub no_wind : Wind
no_wind = record { direction = pos 0; speed = pos 0 }

abbrev pub no_step : Step
no_step = record { height = pos 0; factor = pos 0 }

abbrev pub no_face : Face
no_face = record { zone = 0; mark = pos 0; height = pos 0; x = pos 0; y = pos 0; z = pos 0 }

-- nothing read yet: a sheet that does not say its year is of year 1
abbrev pub nothing : Carried
nothing = record { year = pos 1; building = no_building; winds = []; internals = []; profile = []; faces = [] }

-- ---- with another part

abbrev pub with_year : ℤ → Carried → Carried
with_year y c =
    record {
      year = y;
      building = c.building;
      winds = c.winds;
      internals = c.internals;
      profile = c.profile;
      faces = c.faces;
    }

abbrev pub with_building : Building → Carried → Carried
with_building g c =
    record {
      year = c.year;
      building = g;
      winds = c.winds;
      internals = c.internals;
      profile = c.profile;
      faces = c.faces;
    }

abbrev pub with_winds : List Wind → Carried → Carried
with_winds l c =
    record {
      year = c.year;
      building = c.building;
      winds = l;
      internals = c.internals;
      profile = c.profile;
      faces = c.faces;
    }

abbrev pub with_internals : List ℤ → Carried → Carried
with_internals l c =
    record {
      year = c.year;
      building = c.building;
      winds = c.winds;
      internals = l;
      profile = c.profile;
      faces = c.faces;
    }

abbrev pub with_profile : List Step → Carried → Carried
with_profile l c =
    record {
      year = c.year;
      building = c.building;
      winds = c.winds;
      internals = c.internals;
      profile = l;
      faces = c.faces;
    }

abbrev pub with_faces : List Face → Carried → Carried
with_faces l c =
    record {
      year = c.year;
      building = c.building;
      winds = c.winds;
      internals = c.internals;
      profile = c.profile;
      faces = l;
    }

-- d, with what c carries in one section
abbrev pub with_section : Section → Carried → Carried → Carried
with_section «V» c d = with_year c.year d
with_section B c d = with_building c.building d
with_section W c d = with_winds c.winds d
with_section I c d = with_internals c.internals d
with_section P c d = with_profile c.profile d
with_section F c d = with_faces c.faces d

-- what c carries in these sections, and nothing in others
abbrev pub carried_in : List Section → Carried → Carried
carried_in [] c = nothing
carried_in (s ∷ ss) c = with_section s c (carried_in ss c)

-- ---- what a line is judged by

-- the height of the first step, 0 where there is none
abbrev pub lowest_of : List Step → ℤ
lowest_of [] = pos 0
lowest_of (s ∷ ss) = s.height

-- the height of the last step, z where there is none
abbrev pub last_height : ℤ → List Step → ℤ
last_height z [] = z
last_height z (s ∷ ss) = last_height s.height ss

-- below every height where there is none
abbrev pub highest_of : List Step → ℤ
highest_of ss = last_height (neg_ℤ (pos 1)) ss

-- where this was read before it
abbrev pub before : Carried → Before
before c =
    record {
      year = c.year;
      building = c.building;
      lowest = lowest_of c.profile;
      highest = highest_of c.profile;
    }

-- ---- a record

-- what the sheet of a record carries: its entries up to each count, but in year 1 no profile and no heights
unfoldable pub carried : Job → Carried
carried j =
    record {
      year = j.year;
      building = j.building;
      winds = first_of no_wind j.winds.count j.winds.entry;
      internals = first_of (pos 0) j.internals.count j.internals.entry;
      profile = cond (has_heights j.year) (first_of no_step j.profile.count j.profile.entry) [];
      faces = map (carried_face (has_heights j.year)) (first_of no_face j.faces.count j.faces.entry);
    }

-- two records are the same job if all that their sheets carry agrees
abbrev pub SameJob : Job → Job → Type 0
SameJob j k = carried j ≡ carried k

-- the room of a record for faces: what a sheet of its year may have is another number (`face_limit`), and no larger
abbrev pub most_faces : ℕ
most_faces = 240

-- the record of what a sheet carries, with room for 8 winds, 4 internal coefficients, 16 steps and so many faces: the
-- entries after a count are zero
unfoldable pub recorded : Carried → Job
recorded c =
    record {
      year = c.year;
      building = c.building;
      winds = record { count = length c.winds; entry = first_of no_wind 8 c.winds };
      internals = record { count = length c.internals; entry = first_of (pos 0) 4 c.internals };
      profile = record { count = length c.profile; entry = first_of no_step 16 c.profile };
      faces = record { count = length c.faces; entry = first_of no_face most_faces c.faces };
    }

-- the record that is all zero
abbrev pub no_job : Job
no_job = recorded (with_year (pos 0) nothing)
