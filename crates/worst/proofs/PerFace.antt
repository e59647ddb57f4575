-- The forces of the faces under one wind and one internal coefficient, as the code makes them: face by face, each at
-- its pressure number.
use mathlib.Core.Path.{◌≡◌, refl, sym, ap, ◌∙◌, fun_ext, subst}
use mathlib.Core.Bool.{Bool, true, false, cond, ◌&&◌}
use mathlib.Core.List.Memᴰ
use mathlib.Core.List.{List, [], ◌∷◌, map, map-map, map-append}
use Prim.Native.Nat.{ℕ, ◌+◌, ◌-◌, ◌≤◌, ◌<◌}
use native.Mathlib.Omega.{arith}
use lib.Dec.{leb}
use lib.IntN.{ℤ, pos, nat_abs, ◌*ℤ◌}
use lib.ListN.{length, get_or, set, length-map}
use Rattle.whole.specs.Lists.{first_of}
use Rattle.whole.proofs.Lists.{first_of-length, first_of-get_d, first_of-more}
use Rattle.whole.proofs.FirstOf.{first_of-next}
use Rattle.whole.proofs.ByPlace.{get_d-member}
use Rattle.building.specs.declared.Building.{Building}
use Rattle.book.specs.Answer.{values_of}
use Rattle.book.specs.Question.{outside_of, net}
use Rattle.entry.specs.declared.Wind.{Wind}
use Rattle.entry.specs.declared.Step.{Step}
use Rattle.entry.specs.declared.Face.{Face}
use Rattle.job.specs.declared.Job.{Job}
use Rattle.job.specs.Carried.{Carried, carried, most_faces, no_wind, no_face}
use Rattle.job.specs.InOrder.{InOrder}
use Rattle.worst.specs.declared.AxisForces.{AxisForces}
use Rattle.worst.specs.declared.FaceForces.{FaceForces}
use Rattle.worst.specs.declared.CellForces.{CellForces}
use Rattle.whole.specs.Lists.{numbers}
use Rattle.whole.proofs.Numbers.{length-numbers}
use Rattle.worst.specs.Forces.{Given, acts, factor_of, pressure, outsides, face_speed, wind_at, internal_at}
use Rattle.worst.specs.Worst.{given}
use Rattle.worst.specs.Engine.{faces_of}
use Rattle.worst.specs.Factors.{profile_of}
use Rattle.worst.specs.PerFace.{face_forces, no_force, no_face_forces, forces_up_to, cell_forces, numbered, forces_at}
use Rattle.worst.specs.AtPressure.{coefficients_of, forces_with, forces_by}
use Rattle.worst.proofs.CarriedFaces.{as_carried, same-factor}
use Rattle.worst.proofs.Accepted.{given-in-range}

-- ---- one face

module _ (c : Carried) (w : Wind) (internal : ℤ) (f : Face) where
  abbrev outs : List ℤ
  outs = outsides (given c) w f

  abbrev p : ℤ
  p = pressure c.building.density (face_speed c.profile w f)

  -- the force at alternative k; and with so many of them the first and the last
  abbrev force_at : Bool → ℕ → AxisForces
  force_at t k =
      let n = net (get_or outs (k - 1) (pos 0)) internal *ℤ p in
      record {
        x = cond t (n *ℤ f.x) (pos 0);
        y = cond t (n *ℤ f.y) (pos 0);
        z = cond t (n *ℤ f.z) (pos 0);
      }

  abbrev having : Bool → ℕ → FaceForces
  having t n = record { count = n; first = force_at t 1; last = force_at t n }

  face-by : face_forces (given c) w internal f
      ≡ forces_by c.year c.building w (factor_of c.profile f) internal f
  unfolding face_forces
  face-by = go (acts f w.direction)
    where
      go : (t : Bool) → having t (length (cond t (numbers (length outs) 1) (1 ∷ [])))
          ≡ cond t (forces_with f (coefficients_of outs) internal p)
          (record { count = 1; first = no_force; last = no_force })
      go true = ap (having true) (length-numbers (length outs) 1)
      go false = refl

-- ---- all faces of a job

module _ (year : ℤ) (b : Building) (profile : List Step) (w : Wind) (internal : ℤ) where
  -- of one, at the factor that the profile has at its height
  abbrev pub row_of : Face → FaceForces
  row_of f = forces_by year b w (factor_of profile f) internal f

  abbrev pub rows_of : List Face → CellForces
  rows_of fs = forces_up_to (map row_of fs)

  -- one face more stands where the first zeros stood
  pub row_next : (l : List Face) (i : ℕ) → i < most_faces
      → record { face = set (rows_of (first_of no_face i l)).face i (row_of (get_or l i no_face)) }
      ≡ rows_of (first_of no_face (i + 1) l)
  row_next l i h =
      let before = first_of no_face i l in
      let next = get_or l i no_face in
      let long : length (map row_of before) ≡ i = length-map before row_of ∙ first_of-length no_face i l in
      ap (λ (k : ℕ). record { face = set (rows_of before).face k (row_of next) }) (sym long)
      ∙ ap (λ (k : List FaceForces). record { face = k })
      (sym (first_of-more no_face_forces most_faces (map row_of before) (row_of next) (omega (arith, long))))
      ∙ ap forces_up_to (sym (map-append row_of before (next ∷ [])))
      ∙ ap rows_of (first_of-next no_face l i)

pub rows_are : (j : Job) (w : Wind) (internal : ℤ)
    → cell_forces (given (carried j)) w internal
    ≡ rows_of j.year j.building (profile_of j) w internal (faces_of j.faces)
unfolding carried
rows_are j w internal =
    let fs = faces_of j.faces in
    ap forces_up_to
    (map-map _ (as_carried j) fs
    ∙ ap (λ v. map v fs)
    (fun_ext (λ f.
    face-by (carried j) w internal (as_carried j f)
    ∙ ap (λ k. forces_by j.year j.building w k internal f) (same-factor j f))))

-- no coefficient of a job's faces is above 1.200
pub small-outside : (j : Job) → InOrder (carried j) → (i : ℕ) → i < j.faces.count → (d : ℤ) (k : ℕ)
    → nat_abs (get_or (values_of (outside_of j.year j.building d (get_or j.faces.entry i no_face).zone)) k (pos 0))
    ≤ 1200
unfolding carried
small-outside j o i t d =
    let fs = faces_of j.faces in
    let n = first_of-length no_face j.faces.count j.faces.entry in
    let m = get_d-member fs i no_face (omega (arith, n)) in
    subst
    (λ f. (k : ℕ) → nat_abs (get_or (values_of (outside_of j.year j.building d f.zone)) k (pos 0)) ≤ 1200)
    (first_of-get_d no_face j.faces.count i j.faces.entry t)
    ((given-in-range (carried j) o).outside d (as_carried j (get_or fs i no_face)) (Memᴰ.map (as_carried j) m))

-- ---- by the numbers of a wind and of an internal coefficient

module _ (j : Job) (w i : ℕ) where
  abbrev g : Given
  g = given (carried j)

  -- what has a number stands one place before it in the record
  pub wind-numbered : 1 ≤ w → w ≤ j.winds.count → wind_at g w ≡ get_or j.winds.entry (w - 1) no_wind
  unfolding carried
  wind-numbered from to = first_of-get_d no_wind j.winds.count (w - 1) j.winds.entry (omega arith)

  pub internal-numbered : 1 ≤ i → i ≤ j.internals.count
      → internal_at g i ≡ get_or j.internals.entry (i - 1) (pos 0)
  unfolding carried
  internal-numbered from to = first_of-get_d (pos 0) j.internals.count (i - 1) j.internals.entry (omega arith)

  -- whether the record has a wind of that number, and some list so many
  pub both-numbered : {A X : Type 0} (l : List A) (n : ℕ) → length l ≡ n → (here none : X) (p q : Bool)
      → (leb 1 w && leb w j.winds.count) ≡ p → (leb 1 i && leb i n) ≡ q
      → cond (numbered g.winds w && numbered l i) here none ≡ cond (p && q) here none
  unfolding carried
  both-numbered l n long here none p q e d =
      let winds = first_of-length no_wind j.winds.count j.winds.entry in
      let a = ap (λ n. leb 1 w && leb w n) winds ∙ e in
      let b = ap (λ n. leb 1 i && leb i n) long ∙ d in
      λ k. cond (a k && b k) here none

  pub forces-numbered : (p q : Bool) → (leb 1 w && leb w j.winds.count) ≡ p
      → (leb 1 i && leb i j.internals.count) ≡ q
      → forces_at g w i ≡ cond (p && q) (cell_forces g (wind_at g w) (internal_at g i)) (forces_up_to [])
  unfolding carried
  forces-numbered =
      both-numbered g.internals j.internals.count
      (first_of-length (pos 0) j.internals.count j.internals.entry)
      (cell_forces g (wind_at g w) (internal_at g i)) (forces_up_to [])
