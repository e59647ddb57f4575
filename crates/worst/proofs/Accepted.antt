-- What an accepted job gives: every number is in its range, every face has one or two coefficients, and so it can be
-- reckoned.
use mathlib.Core.Path.{◌≡◌, refl, sym, ap, ◌∙◌, subst}
use mathlib.Core.Logic.{◌⊎◌, inl, inr, ⊎_elim}
use mathlib.Core.Bool.{true, true≢false}
use mathlib.Core.List.{List, Memᴰ}
use Prim.Native.Nat.{ℕ, ◌-◌, ◌*◌, ◌≤◌, ◌<◌}
use native.Mathlib.Omega.{arith}
use lib.IntN.{ℤ, pos, neg_ℤ, nat_abs}
use lib.Signed.{le_z_yes}
use lib.Dec.{T, leb, leb→le}
use lib.ListN.{length, get_or, length-map}
use Rattle.whole.specs.Lists.{first_of, Every}
use Rattle.whole.proofs.Order.{≤ℤ-trans}
use Rattle.whole.proofs.Tests.{or-true}
use Rattle.whole.proofs.Size.{size-rises}
use Rattle.whole.proofs.Lists.{every-by, every_map, every-at, every-member, first_of-length, first_of-get_d}
use Rattle.book.specs.Answer.{values_of, Alternatives, one, two}
use Rattle.building.specs.declared.Building.{Building}
use Rattle.building.specs.Test.{is, one_of}
use Rattle.building.specs.Places.{F, wall_directions, knows, place_on}
use Rattle.book.specs.Question.{outside_of}
use Rattle.building.proofs.Accepted.{Within, within, good-fields}
use Rattle.building.proofs.Machine.{is_same}
use Rattle.building.proofs.Places.{known, zone-there}
use Rattle.building.proofs.Ranges.{is_within}
use Rattle.book.proofs.Answers.{zone-answered, zone-small}
use Rattle.entry.specs.declared.Wind.{Wind}
use Rattle.entry.specs.declared.Step.{Step}
use Rattle.entry.specs.declared.Face.{Face}
use Rattle.building.specs.Year.{last_year, has_heights, face_limit}
use Rattle.building.proofs.Judged.{InYear}
use Rattle.book.proofs.Readings.{readings-agree, last-year}
use Rattle.job.proofs.Room.{few-faces}
use Rattle.job.proofs.Years.{year-is}
use Rattle.entry.specs.Says.{both}
use Rattle.job.specs.declared.Job.{Job}
use Rattle.job.specs.Carried.{Carried, carried, no_wind, no_step, no_face}
use Rattle.job.specs.InOrder.{WindInOrder, InternalInOrder, FaceInOrder, StepInOrder, HeightInOrder, OfLaterYear}
use Rattle.job.specs.InOrder.{InOrder}
use Rattle.worst.specs.Worst.{given}
use Rattle.worst.specs.Forces.{acts, factor_of}
use Rattle.worst.specs.Factors.{StepSmall, Profiled, Fraction}
use Rattle.worst.specs.Table.{first_and_last}
use Rattle.worst.specs.Small.{FaceSmall, Met, AllMet, Ready}
use Rattle.worst.specs.Engine.{faces_of}
use Rattle.worst.proofs.Climb.{fraction-none, fraction-at}
use Rattle.worst.proofs.CarriedFaces.{as_carried, same-factor}
use Rattle.worst.proofs.OneFace.{OneOrTwo, alone, pair}
use Rattle.worst.proofs.AllCells.{Sound, ByLast}
use Rattle.worst.proofs.Ranges.{InRange}

-- ---- a zone's answer

one-or-two : {k kind place : ℕ} {values : List ℤ} → Alternatives k kind place values → OneOrTwo values
one-or-two (one {v} h) = alone v
one-or-two (two {v} {w} h k e f) = pair v w

-- and one, unless it is zone F
abbrev OneValue : List ℤ → Type 0
OneValue values = (first_and_last values).first ≡ (first_and_last values).last

one_value : {k kind place : ℕ} {values : List ℤ} → Alternatives k kind place values → (place ≡ F → ⊥)
    → OneValue values
one_value (one h) n = refl
one_value (two h k e f) n = absurd (n e)

-- a mark that the walls' table has is not that for every direction, and so it is the wind's
one-of-mark : (d mark : ℤ) → one_of wall_directions mark ≡ true → (is both mark ≡ true) ⊎ (is d mark ≡ true)
    → one_of wall_directions d ≡ true
one-of-mark d mark e (inl b) = absurd (true≢false (sym (rw (is_same both mark b) at e)))
one-of-mark d mark e (inr b) = rw (is_same d mark b) at e

-- a direction's turn, in steps of 45 degrees
record Turned (d : ℤ) : Type 0 where
  turn : ℕ
  few : turn ≤ 4
  way : d ≡ pos (turn * 45)

turned : (kind d : ℤ) → knows kind d ≡ true → Turned d
turned kind d = known Turned kind d (to 0 tt, (to 2 tt, (to 1 tt, (to 3 tt, (to 4 tt, tt)))))
  where
    to : (n : ℕ) → T (leb n 4) → Turned (pos (n * 45))
    to n t = record { turn = n; few = leb→le n 4 t; way = refl }

-- a speed's range
speed-within : (g : Building) (w : Wind) → WindInOrder g w → Within 1 1000 w.speed
speed-within g w o =
    within 1 1000 w.speed (is_within (pos 1) (pos 1000) w.speed o.least-speed o.greatest-speed)

step_small : (s : Step) → StepInOrder s → StepSmall s
step_small s o =
    let from = ≤ℤ-trans (le_z_yes tt) o.factor.low in
    record {
      height = size-rises _ _ o.height.low o.height.high;
      factor = size-rises _ _ from o.factor.high;
    }

-- ---- what is carried

module _ (c : Carried) (o : InOrder c) where
  in-year : InYear c.year c.building
  in-year = record { is = year-is c o; none = o.building }

  -- a face that takes part is asked for under a direction that its table has
  reached : (d : ℤ) → knows c.building.kind d ≡ true → (f : Face) → FaceInOrder c.building f
      → acts f d ≡ true → place_on c.building.kind d f.zone ≡ true
  reached d e f h a =
      zone-there c.building.kind d f.zone h.on e
      (λ s w. one-of-mark d f.mark (h.wall s w) (or-true (is both f.mark) (is d f.mark) a))

  answered : (d : ℤ) → knows c.building.kind d ≡ true → (f : Face) → FaceInOrder c.building f
      → acts f d ≡ true
      → Alternatives 1200 (nat_abs c.building.kind) f.zone
      (values_of (outside_of c.year c.building d f.zone))
  answered d e f h a = zone-answered c.year c.building d f.zone in-year e (reached d e f h a) h.on

  -- and no coefficient is above 1.200, whatever the direction
  small_at : (year : ℤ) → InYear year c.building → (d : ℤ) (f : Face) → FaceInOrder c.building f
      → (i : ℕ) → nat_abs (get_or (values_of (outside_of year c.building d f.zone)) i (pos 0)) ≤ 1200
  small_at year e d f h = zone-small year c.building d f.zone e h.on

  -- in order by the last year's reading too
  by_last : InYear (pos last_year) c.building
  by_last = last-year c.year c.building in-year

  face-in : (f : Face) → Memᴰ f c.faces → FaceInOrder c.building f
  face-in f m = every-member (FaceInOrder c.building) c.faces o.faces m

  wind-in : (w : Wind) → Memᴰ w c.winds → WindInOrder c.building w
  wind-in w m = every-member (WindInOrder c.building) c.winds o.winds m

  pub given-sound : Sound (given c)
  given-sound w f mw mf a = one-or-two (answered w.direction (wind-in w mw).direction f (face-in f mf) a)

  face-small : (f : Face) → FaceInOrder c.building f → FaceSmall f
  face-small f h = record { x = h.x; y = h.y; z = h.z }

  -- its coefficients are those of the last year's reading
  pub outside-last : (direction : ℤ) (zone : ℕ)
      → outside_of c.year c.building direction zone ≡ outside_of (pos last_year) c.building direction zone
  outside-last direction zone = readings-agree c.year (pos last_year) c.building direction zone in-year by_last

  -- a face under a wind
  met : (w : Wind) → WindInOrder c.building w → (f : Face) → FaceInOrder c.building f → Met c.building w f
  met w hw f hf =
      let small = small_at (pos last_year) by_last w.direction f hf in
      let t = turned c.building.kind w.direction hw.direction in
      let outs = values_of (outside_of (pos last_year) c.building w.direction f.zone) in
      record {
        dense = (good-fields c.year c.building o.building).density.to;
        slow = record { from = ≤ℤ-trans (le_z_yes tt) hw.least-speed; to = (speed-within c.building w hw).to };
        face = face-small f hf;
        placed =
            record {
              turn = t.turn;
              few = t.few;
              way = t.way;
              from = hf.zone.low;
              to = hf.zone.high;
            };
        outside = record { first = small 0; last = small (length outs - 1) };
        alone = λ a n. subst OneValue (ap values_of (outside-last w.direction f.zone))
            (one_value (answered w.direction hw.direction f hf a) n);
      }

  -- the factor of each face
  pub fractions : Every (λ f. Fraction (factor_of c.profile f)) c.faces
  fractions =
      ⊎_elim
      (λ y.
      every-by (λ f h. subst (λ p. Fraction (factor_of p f)) (sym y.profile) (fraction-none f.height)) c.faces
      y.heights)
      (λ y.
      every-by
      (λ f h. fraction-at c.profile (neg_ℤ (pos 1)) f.height y.profile y.rising h.within.low)
      c.faces y.heights)
      o.form

  pub given-in-range : InRange (face_limit c.year) (given c)
  given-in-range =
      record {
        density = (good-fields c.year c.building o.building).density.to;
        speed = λ w m. (speed-within c.building w (wind-in w m)).to;
        factor = λ f m. every-member (λ g. Fraction (factor_of c.profile g)) c.faces fractions m;
        internal = λ i m. every-member InternalInOrder c.internals o.internals m;
        few_faces = o.faces-counted.high;
        face = λ f m. face-small f (face-in f m);
        outside = λ d f m. small_at c.year in-year d f (face-in f m);
      }

-- ---- a record

-- an entry that counts is an entry that is carried
counted-at : {A : Type 0} (P : A → Type 0) (d : A) (n : ℕ) (l : List A) → Every P (first_of d n l) → (k : ℕ) → k < n
    → P (get_or l k d)
counted-at P d n l h k lt =
    subst P (first_of-get_d d n k l lt) (every-at P (first_of d n l) d k (omega (arith, first_of-length d n l)) h)

module _ (j : Job) (o : InOrder (carried j)) where
  wind : (k : ℕ) → k < j.winds.count → WindInOrder j.building (get_or j.winds.entry k no_wind)
  unfolding carried
  wind = counted-at (WindInOrder j.building) no_wind j.winds.count j.winds.entry o.winds

  -- what holds of each face as it is carried
  counted-face : (P : Face → Type 0) → Every P (carried j).faces → (i : ℕ) → i < j.faces.count
      → P (as_carried j (get_or j.faces.entry i no_face))
  unfolding carried
  counted-face P h =
      counted-at (λ f. P (as_carried j f)) no_face j.faces.count j.faces.entry
      (every_map P (as_carried j) (faces_of j.faces) h)

  face : (i : ℕ) → i < j.faces.count → FaceInOrder j.building (get_or j.faces.entry i no_face)
  unfolding carried
  face i t =
      let h = counted-face (FaceInOrder j.building) o.faces i t in
      record { zone = h.zone; on = h.on; mark = h.mark; wall = h.wall; x = h.x; y = h.y; z = h.z }

  few_faces : j.faces.count ≤ 240
  unfolding carried
  few_faces =
      let all = length-map (faces_of j.faces) (as_carried j) in
      omega (arith, few-faces (carried j) o, all, first_of-length no_face j.faces.count j.faces.entry)

  all-met : (k : ℕ) → k < j.winds.count → AllMet j.building j.faces (get_or j.winds.entry k no_wind)
  unfolding carried
  all-met k h =
      record { few = few_faces; each = λ i t. met (carried j) o _ (wind k h) _ (face i t) }

  -- the profile and the heights of a later year
  later : has_heights j.year ≡ true → OfLaterYear (carried j)
  unfolding carried
  later h =
      ⊎_elim (λ y. absurd (true≢false (sym h ∙ ap has_heights y.year))) (λ y. y) o.form

  profiled : Profiled j
  unfolding carried
  profiled =
      record {
        few = few_faces;
        profile = λ h.
            let y = later h in
            let steps = first_of-length no_step j.profile.count j.profile.entry in
            record {
              few = omega (arith, rw h at y.counted.high, steps);
              each = λ i t. step_small _
                  (counted-at StepInOrder no_step j.profile.count j.profile.entry (rw h at y.profile) i t);
            };
        heights = λ h i t.
            let low = counted-face (λ f. HeightInOrder (carried j).profile f.height) (later h).heights i t in
            size-rises _ _ (rw h at low.range.low) (rw h at low.range.high);
      }

  pub last-reading : ByLast j
  unfolding carried
  last-reading direction zone = ap values_of (outside-last (carried j) o direction zone)

  pub job-ready : Ready j
  unfolding carried
  job-ready =
      let winds = first_of-length no_wind j.winds.count j.winds.entry in
      let internals = first_of-length (pos 0) j.internals.count j.internals.entry in
      record {
        some_wind = omega (arith, o.winds-counted.low, winds);
        winds = omega (arith, o.winds-counted.high, winds);
        met = all-met;
        some_internal = omega (arith, o.internals-counted.low, internals);
        internals = (
          omega (arith, o.internals-counted.high, internals),
          counted-at InternalInOrder (pos 0) j.internals.count j.internals.entry o.internals,
        );
        profiled = profiled;
        factors = λ i t. subst Fraction (same-factor j (get_or j.faces.entry i no_face))
            (counted-face (λ f. Fraction (factor_of (carried j).profile f)) (fractions (carried j) o) i t);
      }
