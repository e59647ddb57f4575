-- The forces of a job's faces are small enough to be added up, and leave few choices.
use mathlib.Core.Path.{◌≡◌, refl, sym, ap, ◌∙◌, subst}
use mathlib.Core.List.{List, [], ◌∷◌, map, Memᴰ}
use Prim.Native.Nat.{ℕ, ◌-◌, ◌≤◌}
use native.Mathlib.Omega.{arith}
use lib.Dec.{eqb}
use lib.IntN.{ℤ, pos, nat_abs}
use lib.ListN.{length, take}
use lib.Seq.{length-take-le}
use Rattle.whole.specs.Lists.{how_many, Every}
use Rattle.whole.proofs.ByPlace.{get_d-member}
use Rattle.whole.proofs.Counting.{many-map, many-le}
use Rattle.whole.proofs.Lists.{map-every, first_of-length, first_of-take}
use Rattle.entry.specs.declared.Face.{Face}
use Rattle.entry.specs.declared.Wind.{Wind}
use Rattle.job.specs.declared.Job.{Job}
use Rattle.job.specs.Carried.{carried, most_faces, no_wind}
use Rattle.job.specs.Walk.{judged}
use Rattle.worst.specs.declared.Axis.{Axis}
use Rattle.worst.specs.declared.Axis.TheVariants.{X, Y, Z}
use Rattle.worst.specs.declared.FaceForces.{FaceForces}
use Rattle.worst.specs.declared.CellForces.{CellForces}
use Rattle.worst.specs.Forces.{Given, alternatives, force, wind_at, internal_at}
use Rattle.worst.specs.Worst.{given}
use Rattle.worst.specs.PerFace.{face_forces, no_face_forces, cell_forces, forces_in}
use Rattle.worst.specs.Rows.{Taken, rows}
use Rattle.worst.proofs.Accepted.{given-in-range}
use Rattle.worst.proofs.Ranges.{force-small}
use Rattle.worst.proofs.Rows.{winds-counted, internals-counted, cell-is, rows_are, ready}
use Rattle.plain.specs.Plain.{two_somewhere, faces_with_two, most_with_two}
use Rattle.plain.specs.ByNumber.{has_two, most_ways, ways}
use Rattle.plain.specs.Walked.{RowSmall, Underway, FewTwos}
use Rattle.plain.proofs.AnyOf.{any-member}
use Rattle.plain.proofs.Choosing.{ways-few}

-- of each of a list
members-every : {A : Type 0} (P : A → Type 0) (l : List A) → ((x : A) → Memᴰ x l → P x) → Every P l
members-every P [] h = tt
members-every P (x ∷ l) h = (h x (Memᴰ.head refl), members-every P l (λ y m. h y (Memᴰ.tail m)))

-- of one face under a wind
module _ (j : Job) (t : Taken j) where
  abbrev g : Given
  g = given (carried j)

  abbrev n : ℕ
  n = j.faces.count

  row_small : (w : Wind) (i : ℤ) → nat_abs w.speed ≤ 1000 → nat_abs i ≤ 100 → (f : Face) → Memᴰ f g.faces
      → RowSmall (face_forces g w i f)
  unfolding face_forces
  row_small w i slow low f m =
      let last = length (alternatives g w f) in
      let small : (axis : Axis) (a : ℕ) → nat_abs (force axis g w i f a) ≤ 330000000000000000 =
      λ axis a. force-small g (given-in-range (carried j) t.order) axis w i f a slow low m in
      record {
        first = record { x = small X 1; y = small Y 1; z = small Z 1 };
        last = record { x = small X last; y = small Y last; z = small Z last };
      }

  -- how many have two alternatives under it
  twos-few : (w : Wind) (i : ℤ) → Memᴰ w g.winds
      → how_many has_two (map (face_forces g w i) g.faces) ≤ faces_with_two g
  unfolding face_forces
  twos-few w i m =
      subst (λ k. k ≤ faces_with_two g) (sym (many-map has_two (face_forces g w i) g.faces))
      (many-le (λ f. eqb (length (alternatives g w f)) 2) (two_somewhere g) g.faces
      (λ f _ e. any-member (λ u. eqb (length (alternatives g u f)) 2) g.winds w m e))

  -- under the wind and the internal coefficient of these numbers
  module _ (w k : ℕ) (from : 1 ≤ w) (to : w ≤ j.winds.count) (since : 1 ≤ k) (up_to_lem : k ≤ j.internals.count)
      (cell : CellForces) (is : cell ≡ forces_in w k (judged j)) where
    abbrev u : Wind
    u = wind_at g w

    there : cell ≡ cell_forces g u (internal_at g k)
    there = is ∙ cell-is j t w k from to since up_to_lem

    room : n ≤ length cell.face
    room =
        omega (
          arith,
          ap (λ (x : CellForces). length x.face) there,
          first_of-length no_face_forces most_faces (map (face_forces g u (internal_at g k)) g.faces),
          (ready j t).profiled.few,
        )

    -- as they are walked
    abbrev all : List FaceForces
    all = take n cell.face

    pub cell-length : length all ≡ n
    cell-length = length-take-le n cell.face room

    pub cell-handed : all ≡ rows n (forces_in w k (judged j))
    cell-handed = sym (first_of-take no_face_forces n cell.face room) ∙ ap (rows n) is

    each : all ≡ map (face_forces g u (internal_at g k)) g.faces
    each = sym (first_of-take no_face_forces n cell.face room) ∙ ap (rows n) there ∙ rows_are j t u (internal_at g k)

    known : Memᴰ u g.winds
    known = get_d-member g.winds (w - 1) no_wind (omega (arith, winds-counted j t))

    cell-small : Every RowSmall all
    cell-small =
        let r = given-in-range (carried j) t.order in
        let low =
        r.internal (internal_at g k)
        (get_d-member g.internals (k - 1) (pos 0) (omega (arith, internals-counted j t))) in
        subst (Every RowSmall) (sym each)
        (map-every RowSmall (face_forces g u (internal_at g k)) g.faces
        (members-every (λ f. RowSmall (face_forces g u (internal_at g k) f)) g.faces
        (row_small u (internal_at g k) (r.speed u known) low)))

    cell-ways : FewTwos j → ways all ≤ most_ways
    cell-ways few =
        subst (λ l. ways l ≤ most_ways) (sym each)
        (ways-few most_with_two (map (face_forces g u (internal_at g k)) g.faces)
        (omega (arith, few, twos-few u (internal_at g k) known)))

    pub cell-underway : FewTwos j → Underway w all
    cell-underway few =
        record {
          few = omega (arith, cell-length, (ready j t).profiled.few);
          some = from;
          small = cell-small;
          ways≤ = cell-ways few;
        }
