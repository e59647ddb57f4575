-- From the ranges of paper 01: every number that is reckoned with is small, and so no total leaves 64 bits.
use mathlib.Core.Path.{refl}
use mathlib.Core.Bool.{Bool, true, false, cond}
use mathlib.Core.List.{List, [], ◌∷◌, Memᴰ}
use Prim.Native.Nat.{ℕ, ◌-◌, ◌*◌, ◌≤◌}
use native.Mathlib.Nat.{le_trans}
use native.Mathlib.Omega.{arith}
use lib.IntN.{ℤ, pos, nat_abs, ◌*ℤ◌}
use lib.ListN.{length, get_or}
use Rattle.whole.proofs.Size.{nat_abs-add, minus-small, times-small}
use Rattle.building.specs.declared.Building.{Building}
use Rattle.entry.specs.declared.Wind.{Wind}
use Rattle.entry.specs.declared.Face.{Face}
use Rattle.job.specs.Carried.{no_wind}
use Rattle.book.specs.Question.{net}
use Rattle.worst.specs.declared.Side.{Side}
use Rattle.worst.specs.declared.Axis.{Axis}
use Rattle.worst.specs.declared.Axis.TheVariants.{X, Y, Z}
use Rattle.worst.specs.declared.speeds.Factor.{Factor}
use Rattle.worst.specs.declared.outside.Outside.{Outside}
use Rattle.worst.specs.Best.{short}
use Rattle.worst.specs.Cases.{Case, total, case_total}
use Rattle.worst.specs.Speed.{speed_at}
use Rattle.worst.specs.Forces.{Given, acts, outsides, factor_of, face_speed, pressure, area, force, wind_at}
use Rattle.worst.specs.Forces.{internal_at, loads}
use Rattle.worst.specs.Engine.{weight, further, reach}
use Rattle.worst.specs.Factors.{Fraction}
use Rattle.worst.specs.Small.{OutsideSmall, FaceSmall, Pressure, Weight, Met}
use Rattle.whole.proofs.ByPlace.{get_d-all}
use Rattle.worst.proofs.AtHeight.{speed-no-larger}

-- what a job of at most n faces gives, each number within its range
pub record InRange (n : ℕ) (g : Given) : Type 0 where
  pub density : nat_abs g.density ≤ 1500
  pub speed : (w : Wind) → Memᴰ w g.winds → nat_abs w.speed ≤ 1000
  pub factor : (f : Face) → Memᴰ f g.faces → Fraction (factor_of g.profile f)
  pub internal : (i : ℤ) → Memᴰ i g.internals → nat_abs i ≤ 100
  pub few_faces : length g.faces ≤ n
  pub face : (f : Face) → Memᴰ f g.faces → FaceSmall f
  pub outside : (d : ℤ) (f : Face) → Memᴰ f g.faces → (k : ℕ)
      → nat_abs (get_or (g.outside d f.zone) k (pos 0)) ≤ 1200

-- ---- a face under a wind

-- no face's speed is above its wind's
pub speed-small : (k : Factor) (v : ℤ) → Fraction k → nat_abs v ≤ 1000 → nat_abs (speed_at k v) ≤ 1000
speed-small k v f h = le_trans (speed-no-larger k v f) h

pub pressure-small : (density : ℤ) (k : Factor) (speed : ℤ) → nat_abs density ≤ 1500 → Fraction k
    → nat_abs speed ≤ 1000 → Pressure (pressure density (speed_at k speed))
pressure-small density k speed h f s =
    let v = speed_at k speed in
    let slow = speed-small k speed f s in
    times-small density (v *ℤ v) h (times-small v v {k = 1000} {l = 1000} slow slow)

pub area_small : (axis : Axis) (f : Face) → FaceSmall f → nat_abs (area axis f) ≤ 100000
area_small X f h = h.x
area_small Y f h = h.y
area_small Z f h = h.z

-- at a pressure number
pub weight-at-small : (p a : ℤ) → Pressure p → nat_abs a ≤ 100000 → Weight (p *ℤ a)
weight-at-small p a h k = times-small p a h k

pub weight-small : (axis : Axis) (b : Building) (w : Wind) (k : Factor) (f : Face) → Met b w f → Fraction k
    → Weight (weight axis b w k f)
weight-small axis b w k f m h = go (acts f w.direction)
  where
    go : (t : Bool) → Weight (cond t (pressure b.density (speed_at k w.speed) *ℤ area axis f) (pos 0))
    go true =
        weight-at-small (pressure b.density (speed_at k w.speed)) (area axis f)
        (pressure-small b.density k w.speed m.dense h m.slow.to) (area_small axis f m.face)
    go false = omega arith

pub reach-small : (s : Side) (o : Outside) (weight : ℤ) → OutsideSmall o → Weight weight
    → nat_abs (reach s o weight) ≤ 180000000000000000
unfolding further
reach-small s o weight h k = go (short s (o.first *ℤ weight) (o.last *ℤ weight))
  where
    go : (t : Bool) → nat_abs (cond t (o.last *ℤ weight) (o.first *ℤ weight)) ≤ 180000000000000000
    go true = times-small o.last weight h.last k
    go false = times-small o.first weight h.first k

-- ---- no total exceeds 7.92 × 10^18 in size

pub total-small : {F A : Type 0} (force : F → A → ℤ) (k : ℕ) (fs : List F)
    → ((f : F) → Memᴰ f fs → (a : A) → nat_abs (force f a) ≤ k) → (as' : List A)
    → nat_abs (total force fs as') ≤ length fs * k
unfolding total
total-small force k [] h as' = omega arith
total-small force k (f ∷ fs) h [] = omega arith
total-small force k (f ∷ fs) h (a ∷ as') =
    let one = h f (Memᴰ.head refl) a in
    let rest = total-small force k fs (λ g m. h g (Memᴰ.tail m)) as' in
    omega (arith, nat_abs-add (force f a) (total force fs as'))

module _ (g : Given) {n : ℕ} (r : InRange n g) (axis : Axis) where
  -- a face at its alternative k
  module _ (w : Wind) (i : ℤ) (f : Face) (k : ℕ) where
    abbrev o : ℤ
    o = get_or (outsides g w f) (k - 1) (pos 0)

    abbrev p : ℤ
    p = pressure g.density (face_speed g.profile w f)

    pub force-small : nat_abs w.speed ≤ 1000 → nat_abs i ≤ 100 → Memᴰ f g.faces
        → nat_abs (force axis g w i f k) ≤ 330000000000000000
    force-small slow low m = go (acts f w.direction)
      where
        net-small : nat_abs (net o i) ≤ 2200
        net-small =
            let inside = times-small i (pos 10) {k = 100} {l = 10} low (omega arith) in
            minus-small o (i *ℤ pos 10) (r.outside w.direction f m (k - 1)) inside

        go : (t : Bool) → nat_abs (cond t (net o i *ℤ p *ℤ area axis f) (pos 0)) ≤ 330000000000000000
        go true =
            let pressed =
            times-small (net o i) p net-small
            (pressure-small g.density (factor_of g.profile f) w.speed r.density (r.factor f m) slow) in
            times-small (net o i *ℤ p) (area axis f) pressed (area_small axis f (r.face f m))
        go false = omega arith

  pub case_total-small : (c : Case ℕ ℕ ℕ) → nat_abs (case_total (loads axis g) c) ≤ n * 330000000000000000
  unfolding case_total
  case_total-small c =
      let w = wind_at g c.wind in
      let i = internal_at g c.internal in
      let few = r.few_faces in
      let all =
      total-small (force axis g w i) 330000000000000000 g.faces (λ f m k. force-small w i f k slow low m)
      c.chosen in
      omega arith
    where
      slow : nat_abs (wind_at g c.wind).speed ≤ 1000
      slow =
          get_d-all (λ (w : Wind). nat_abs w.speed ≤ 1000) g.winds no_wind (omega arith) r.speed (c.wind - 1)

      low : nat_abs (internal_at g c.internal) ≤ 100
      low =
          get_d-all (λ (i : ℤ). nat_abs i ≤ 100) g.internals (pos 0) (omega arith) r.internal (c.internal - 1)
