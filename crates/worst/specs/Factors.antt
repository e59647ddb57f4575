-- The factors of a job's faces, which the engine finds once for all winds and keeps in a list. Only contracts of
-- private functions cite it.
use Rattle.std.specs.Prelude.{◌≡◌, true, cond, List, [], ℕ, ◌≤◌, ◌<◌, ℤ, pos, nat_abs, ◌≤ℤ◌, length, get_or, replicate}
use Rattle.whole.specs.Lists.{first_of}
use Rattle.entry.specs.declared.Step.{Step}
use Rattle.building.specs.Year.{has_heights}
use Rattle.job.specs.declared.Job.{Job}
use Rattle.job.specs.declared.Profile.{Profile}
use Rattle.job.specs.declared.Faces.{Faces}
use Rattle.job.specs.Carried.{no_step, no_face}
use Rattle.worst.specs.declared.speeds.Factor.{Factor}
use Rattle.worst.specs.Speed.{unchanged}
use Rattle.worst.specs.Forces.{factor_of}

-- ---- a profile

abbrev pub steps_of : Profile → List Step
steps_of p = first_of no_step p.count p.entry

-- that of a job counts where faces have heights
abbrev pub profile_of : Job → List Step
profile_of j = cond (has_heights j.year) (steps_of j.profile) []

abbrev pub Height : ℤ → Type 0
Height h = nat_abs h ≤ 30000

pub record StepSmall (s : Step) : Type 0 where
  pub height : Height s.height
  pub factor : nat_abs s.factor ≤ 1000

pub record ProfileSmall (p : Profile) : Type 0 where
  pub few : p.count ≤ 16
  pub each : (i : ℕ) → i < p.count → StepSmall (get_or p.entry i no_step)

-- where faces have heights, they and the profile are small
pub record Profiled (j : Job) : Type 0 where
  pub few : j.faces.count ≤ 240
  pub profile : has_heights j.year ≡ true → ProfileSmall j.profile
  pub heights : has_heights j.year ≡ true → (i : ℕ) → i < j.faces.count
      → Height (get_or j.faces.entry i no_face).height

-- ---- the factors

-- a fraction from 0 to 1
pub record Fraction (k : Factor) : Type 0 where
  pub part : pos 0 ≤ℤ k.part
  pub whole : pos 0 ≤ℤ k.whole
  pub within : nat_abs k.part ≤ nat_abs k.whole
  pub some : 0 < nat_abs k.whole
  pub small : nat_abs k.whole ≤ 30000000

-- the one at place i
abbrev pub no_factor : Factor
no_factor = record { part = pos 0; whole = pos 0 }

abbrev pub factor_in : List Factor → ℕ → Factor
factor_in factors i = get_or factors i no_factor

-- at first each is 1 / 1
abbrev pub AllOne : List Factor → Type 0
AllOne factors = factors ≡ replicate (length factors) unchanged

-- then they are those of the faces
abbrev pub FactorsStand : List Step → Faces → List Factor → Type 0
FactorsStand profile fs factors = (i : ℕ) → i < fs.count
    → factor_in factors i ≡ factor_of profile (get_or fs.entry i no_face)

-- and each is a fraction from 0 to 1
abbrev pub Fractions : Faces → List Factor → Type 0
Fractions fs factors = (i : ℕ) → i < fs.count → Fraction (factor_in factors i)
