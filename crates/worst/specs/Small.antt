-- What the numbers of an acceptable job can come to. Only contracts of private functions cite it.
use Rattle.std.specs.Prelude.{◌≡◌, true, ℕ, ◌≤◌, ◌<◌, ℤ, pos, nat_abs, ◌≤ℤ◌, get_or}
use Rattle.building.specs.declared.Building.{Building}
use Rattle.building.specs.Places.{F}
use Rattle.job.specs.declared.Job.{Job}
use Rattle.job.specs.declared.Winds.{Winds}
use Rattle.job.specs.declared.Internals.{Internals}
use Rattle.job.specs.declared.Faces.{Faces}
use Rattle.entry.specs.declared.Wind.{Wind}
use Rattle.entry.specs.declared.Face.{Face}
use Rattle.job.specs.Carried.{no_wind, no_face}
use Rattle.pair.specs.declared.Pair.{Pair}
use Rattle.worst.specs.declared.outside.Outside.{Outside}
use Rattle.worst.specs.declared.tops.Top.{Top}
use Rattle.worst.specs.Forces.{acts, factor_of}
use Rattle.worst.specs.Engine.{wind_numbered}
use Rattle.worst.specs.Factors.{Fraction, Profiled, profile_of}
use Rattle.worst.specs.Table.{outside_at, Placed}

pub record OutsideSmall (o : Outside) : Type 0 where
  pub first : nat_abs o.first ≤ 1200
  pub last : nat_abs o.last ≤ 1200

pub record FaceSmall (f : Face) : Type 0 where
  pub x : nat_abs f.x ≤ 100000
  pub y : nat_abs f.y ≤ 100000
  pub z : nat_abs f.z ≤ 100000

abbrev pub Pressure : ℤ → Type 0
Pressure p = nat_abs p ≤ 1500000000

abbrev pub Weight : ℤ → Type 0
Weight z = nat_abs z ≤ 150000000000000

abbrev pub Dense : Building → Type 0
Dense b = nat_abs b.density ≤ 1500

pub record Slow (w : Wind) : Type 0 where
  pub from : pos 0 ≤ℤ w.speed
  pub to : nat_abs w.speed ≤ 1000

abbrev pub LowInternals : Internals → Type 0
LowInternals is = (is.count ≤ 4) × ((k : ℕ) → k < is.count → nat_abs (get_or is.entry k (pos 0)) ≤ 100)

-- a face under a wind
pub record Met (b : Building) (w : Wind) (f : Face) : Type 0 where
  pub dense : Dense b
  pub slow : Slow w
  pub face : FaceSmall f
  pub placed : Placed w.direction f.zone
  pub outside : OutsideSmall (outside_at b w.direction f.zone)
  -- zone F alone has two alternatives
  pub alone : acts f w.direction ≡ true → (f.zone ≡ F → ⊥)
      → (outside_at b w.direction f.zone).first ≡ (outside_at b w.direction f.zone).last

-- the faces of a job, under one wind and under all
pub record AllMet (b : Building) (fs : Faces) (w : Wind) : Type 0 where
  pub few : fs.count ≤ 240
  pub each : (i : ℕ) → i < fs.count → Met b w (get_or fs.entry i no_face)

pub record Ready (j : Job) : Type 0 where
  pub some_wind : 0 < j.winds.count
  pub winds : j.winds.count ≤ 8
  pub met : (k : ℕ) → k < j.winds.count → AllMet j.building j.faces (get_or j.winds.entry k no_wind)
  pub some_internal : 0 < j.internals.count
  pub internals : LowInternals j.internals
  pub profiled : Profiled j
  pub factors : (i : ℕ) → i < j.faces.count → Fraction (factor_of (profile_of j) (get_or j.faces.entry i no_face))

-- the wind of a cell is one of the job's
pub record OnJob (j : Job) (t : Top Pair) : Type 0 where
  pub wind : 0 < t.wind
  pub wind≤ : t.wind ≤ j.winds.count

-- the wind of a cell has a number of one that can stand, and zone F a place under it
pub record Reached (ws : Winds) (t : Top Pair) : Type 0 where
  pub some : 0 < t.wind
  pub few : t.wind < 9
  pub placed : Placed (wind_numbered ws t.wind).direction F
