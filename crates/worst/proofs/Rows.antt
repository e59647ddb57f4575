-- The forces of a job's faces under one of its winds and one of its internal coefficients, as they are handed over:
-- which row stands for which face, and that its force at an alternative is the face's.
use mathlib.Core.Path.{◌≡◌, refl, sym, ap, ◌∙◌}
use mathlib.Core.Logic.{◌⊎◌, inl, inr, ⊎_elim}
use mathlib.Core.Bool.{Bool, true, false, cond, ◌&&◌}
use mathlib.Core.List.Memᴰ
use mathlib.Core.List.{List, [], ◌∷◌, map, Memᴰ}
use Prim.Native.Nat.{ℕ, ◌-◌, ◌≤◌, ◌<◌}
use native.Mathlib.Omega.{arith}
use borrow.Author.Tests.{le-leb}
use lib.IntN.{ℤ, pos}
use lib.ListN.{length, get_or, length-map}
use Rattle.whole.specs.Lists.{first_of, numbers}
use Rattle.whole.proofs.Lists.{first_of-length, first_of-get_d, first_of-all, first_of-fewer, get_d_map}
use Rattle.whole.proofs.ByPlace.{get_d-member}
use Rattle.building.specs.Year.{has_heights}
use Rattle.entry.specs.Says.{carried_face}
use Rattle.entry.specs.declared.Wind.{Wind}
use Rattle.entry.specs.declared.Face.{Face}
use Rattle.job.specs.declared.Job.{Job}
use Rattle.job.specs.Carried.{carried, most_faces, no_wind, no_face}
use Rattle.job.specs.Walk.{judged}
use Rattle.worst.specs.declared.Axis.{Axis}
use Rattle.worst.specs.declared.Axis.TheVariants.{X, Y, Z}
use Rattle.worst.specs.declared.FaceForces.{FaceForces}
use Rattle.worst.specs.Forces.{Given, acts, outsides, alternatives, force, wind_at, internal_at}
use Rattle.worst.specs.Worst.{given}
use Rattle.worst.specs.PerFace.{force_of, face_forces, no_face_forces, cell_forces, forces_in}
use Rattle.worst.specs.Small.{Ready}
use Rattle.worst.proofs.Accepted.{given-sound, job-ready}
use Rattle.worst.proofs.PerFace.{forces-numbered}
use Rattle.worst.proofs.OneFace.{OneOrTwo, alone, pair}
use Rattle.worst.specs.Rows.{Taken, rows, taken_at, along_axis, force_in}

-- ---- one face

module _ (g : Given) (w : Wind) (i : ℤ) (f : Face) (sound : acts f w.direction ≡ true → OneOrTwo (outsides g w f))
  where
    -- an alternative is the first, or the second of two
    first-or-second : (k : ℕ) → Memᴰ k (alternatives g w f)
        → (k ≡ 1) ⊎ ((k ≡ 2) × (length (alternatives g w f) ≡ 2))
    unfolding numbers
    first-or-second k = go (acts f w.direction) sound
      where
        two : (outs : List ℤ) → OneOrTwo outs → Memᴰ k (numbers (length outs) 1)
            → (k ≡ 1) ⊎ ((k ≡ 2) × (length (numbers (length outs) 1) ≡ 2))
        two outs (alone v) m = inl (Memᴰ.eq_of_singleton m)
        two outs (pair v u) m =
            ⊎_elim inl (λ n. inr (Memᴰ.eq_of_singleton n, refl)) (Memᴰ.cases_cons m)

        go : (t : Bool) → (t ≡ true → OneOrTwo (outsides g w f))
            → let l = cond t (numbers (length (outsides g w f)) 1) (1 ∷ []) in
            Memᴰ k l → (k ≡ 1) ⊎ ((k ≡ 2) × (length l ≡ 2))
        go true h m = two (outsides g w f) (h refl) m
        go false h m = inl (Memᴰ.eq_of_singleton m)

    on-axis : (axis : Axis) (k : ℕ) → force axis g w i f k ≡ along_axis axis (force_of g w i f k)
    on-axis X k = refl
    on-axis Y k = refl
    on-axis Z k = refl

    -- and its force there is what is handed over
    pub force-same : (axis : Axis) (k : ℕ) → Memᴰ k (alternatives g w f)
        → force axis g w i f k ≡ force_in axis (face_forces g w i f) k
    unfolding face_forces
    force-same axis k m = on-axis axis k ∙ ap (along_axis axis) (⊎_elim first second (first-or-second k m))
      where
        first : k ≡ 1 → force_of g w i f k ≡ taken_at (face_forces g w i f) k
        first e = rw e

        second : (k ≡ 2) × (length (alternatives g w f) ≡ 2) → force_of g w i f k ≡ taken_at (face_forces g w i f) k
        second e = rw e.0 (ap (force_of g w i f) (sym e.1))

-- ---- all faces of a job

both : {s t : Bool} → s ≡ true → t ≡ true → (s && t) ≡ true
both p q = rw (p, q)

module _ (j : Job) (t : Taken j) where
  abbrev g : Given
  g = given (carried j)

  pub winds-counted : length g.winds ≡ j.winds.count
  unfolding carried
  winds-counted = first_of-length no_wind j.winds.count j.winds.entry

  pub internals-counted : length g.internals ≡ j.internals.count
  unfolding carried
  internals-counted = first_of-length (pos 0) j.internals.count j.internals.entry

  pub faces-counted : length g.faces ≡ j.faces.count
  unfolding carried
  faces-counted =
      let fs = first_of no_face j.faces.count j.faces.entry in
      length-map fs (carried_face (has_heights j.year)) ∙ first_of-length no_face j.faces.count j.faces.entry

  pub ready : Ready j
  ready = job-ready j t.order

  -- ---- one cell

  pub cell-is : (w i : ℕ) → 1 ≤ w → w ≤ j.winds.count → 1 ≤ i → i ≤ j.internals.count
      → forces_in w i (judged j) ≡ cell_forces g (wind_at g w) (internal_at g i)
  cell-is w i a b c d =
      ap (forces_in w i) t.accepted
      ∙ forces-numbered j w i true true (both (le-leb 1 w a) (le-leb w _ b)) (both (le-leb 1 i c) (le-leb i _ d))

  module _ (w : Wind) (i : ℤ) where
    abbrev row : Face → FaceForces
    row = face_forces g w i

    few : j.faces.count ≤ most_faces
    few = ready.profiled.few

    pub rows_are : rows j.faces.count (cell_forces g w i) ≡ map row g.faces
    rows_are =
        let long : length (map row g.faces) ≡ j.faces.count = length-map g.faces row ∙ faces-counted in
        first_of-fewer no_face_forces j.faces.count most_faces (map row g.faces) few
        ∙ ap (λ n. rows n (record { face = map row g.faces })) (sym long)
        ∙ first_of-all no_face_forces (map row g.faces)

    pub row_is : (k : ℕ) → k < j.faces.count
        → get_or (cell_forces g w i).face k no_face_forces ≡ row (get_or g.faces k no_face)
    row_is k h =
        first_of-get_d no_face_forces most_faces k (map row g.faces) (omega (arith, few))
        ∙ get_d_map row g.faces k no_face no_face_forces (omega (arith, faces-counted))

  -- a face has one outside coefficient or two where it acts
  module _ (w : ℕ) (from : 1 ≤ w) (to : w ≤ j.winds.count) where
    abbrev u : Wind
    u = wind_at g w

    pub sound-at : (f : Face) → Memᴰ f g.faces → acts f u.direction ≡ true → OneOrTwo (outsides g u f)
    sound-at f m =
        given-sound (carried j) t.order u f
        (get_d-member g.winds (w - 1) no_wind (omega (arith, winds-counted))) m
