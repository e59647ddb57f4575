-- The force of a face on an axis, formula [3.2.8]: net coefficient × pressure number × projected area. From it, the
-- cases of a job with their totals.
use Rattle.std.specs.Prelude.{Bool, cond, ◌||◌, List, [], ◌∷◌, ℕ, ◌-◌, ℤ, pos, ◌*ℤ◌, length, get_or}
use Rattle.worst.specs.declared.Axis.{Axis}
use Rattle.worst.specs.declared.Axis.TheVariants.{X, Y, Z}
use Rattle.building.specs.Test.{is}
use Rattle.book.specs.Question.{net}
use Rattle.entry.specs.declared.Wind.{Wind}
use Rattle.entry.specs.declared.Step.{Step}
use Rattle.entry.specs.declared.Face.{Face}
use Rattle.job.specs.Carried.{no_wind, no_face}
use Rattle.entry.specs.Says.{both}
use Rattle.worst.specs.declared.speeds.Factor.{Factor}
use Rattle.whole.specs.Lists.{numbers}
use Rattle.worst.specs.Cases.{Loads}
use Rattle.worst.specs.Speed.{factor_at, speed_at}

-- what a job gives: of its building the air density, and the outside coefficients of a zone under a direction, in
-- thousandths
pub record Given : Type 0 where
  pub density : ℤ
  pub outside : ℤ → ℕ → List ℤ
  pub winds : List Wind
  pub internals : List ℤ
  pub profile : List Step
  pub faces : List Face

-- ---- one face

-- a face marked for one direction adds nothing under another
abbrev pub acts : Face → ℤ → Bool
acts f direction = is both f.mark || is direction f.mark

abbrev pub outsides : Given → Wind → Face → List ℤ
outsides g w f = g.outside w.direction f.zone

-- the numbers of its alternatives: as many as it has outside coefficients, and one where it adds nothing
abbrev pub alternatives : Given → Wind → Face → List ℕ
alternatives g w f = cond (acts f w.direction) (numbers (length (outsides g w f)) 1) (1 ∷ [])

-- the factor at a face's height, and a wind's speed there
abbrev pub factor_of : List Step → Face → Factor
factor_of profile f = factor_at profile f.height

abbrev pub face_speed : List Step → Wind → Face → ℤ
face_speed profile w f = speed_at (factor_of profile f) w.speed

-- P = density × V²
abbrev pub pressure : ℤ → ℤ → ℤ
pressure density speed = density *ℤ (speed *ℤ speed)

abbrev pub area : Axis → Face → ℤ
area X f = f.x
area Y f = f.y
area Z f = f.z

-- at its alternative k
abbrev pub force : Axis → Given → Wind → ℤ → Face → ℕ → ℤ
force axis g w internal f k =
    cond (acts f w.direction)
    (net (get_or (outsides g w f) (k - 1) (pos 0)) internal *ℤ pressure g.density (face_speed g.profile w f)
    *ℤ area axis f)
    (pos 0)

-- ---- all of them

-- the wind, the internal coefficient and the face of a number, from 1
abbrev pub wind_at : Given → ℕ → Wind
wind_at g w = get_or g.winds (w - 1) no_wind

abbrev pub internal_at : Given → ℕ → ℤ
internal_at g i = get_or g.internals (i - 1) (pos 0)

abbrev pub face_at : Given → ℕ → Face
face_at g k = get_or g.faces (k - 1) no_face

-- winds, internal coefficients and alternatives by their numbers
abbrev pub loads : Axis → Given → Loads ℕ ℕ Face ℕ
loads axis g =
    record {
      winds = numbers (length g.winds) 1;
      internals = numbers (length g.internals) 1;
      faces = g.faces;
      alternatives = λ w f. alternatives g (wind_at g w) f;
      force = λ w i f k. force axis g (wind_at g w) (internal_at g i) f k;
    }
