-- The faces that an edit takes out and puts in: each can stand alone in the job, and what the job carries after the
-- edit is what it carried with the one in the place of the other.
use mathlib.Core.Path.{◌≡◌, refl, sym, ap, ◌∙◌, subst}
use mathlib.Core.Bool.{Bool}
use mathlib.Core.List.{List, [], ◌∷◌, ◌++◌, append-nil}
use Prim.Native.Nat.{ℕ, ◌+◌, ◌-◌, ◌≤◌, ◌<◌}
use native.Mathlib.Omega.{arith}
use lib.IntN.{ℤ, nat_abs}
use lib.ListN.{length, take, drop, get_or, set, take-append-drop}
use lib.Seq.{drop-drop, drop-cons, set_split}
use Rattle.whole.specs.Lists.{first_of}
use Rattle.whole.proofs.Lists.{every-at, get_d_map, first_of-length, first_of-get_d}
use Rattle.building.specs.Year.{has_heights}
use Rattle.entry.specs.declared.Face.{Face}
use Rattle.entry.specs.Says.{carried_face}
use Rattle.job.specs.declared.Job.{Job}
use Rattle.job.specs.Carried.{Carried, carried, with_faces, no_face}
use Rattle.job.specs.InOrder.{InOrder}
use Rattle.job.specs.Walk.{judged}
use Rattle.job.proofs.InOrder.{in-order-accepted}
use Rattle.worst.specs.declared.Stored.{Stored}
use Rattle.worst.specs.Stored.{stored_of, stored_in}
use Rattle.edits.specs.Edits.{Edit, Add, Replace, TakeOut, held_job, new_face, edit_verdict, job_with}
use Rattle.edits.proofs.Counts.{held-in-order}
use Rattle.edits.proofs.Checks.{add-passed, replace-passed, take-out-passed, there-is}
use Rattle.edits.proofs.Accepted.{Fits, all_fit, new-fits, fit-in-order, holding-carried, edit_carried}
use Rattle.edits.proofs.Accepted.{many}
use Rattle.building.proofs.Accepted.{Within}
use Rattle.worksheet.specs.Kept.{face, leaving, coming, part_of_faces}
use Rattle.worksheet.proofs.Bounds.{SumsSmall, in-order-small, none-small}

-- one face alone
alone : (c : Carried) → InOrder c → (f : Face) → Fits c f → InOrder (with_faces (f ∷ []) c)
alone c o f h = fit-in-order c o (f ∷ []) (record { low = omega arith; high = omega arith }) (h, tt)

-- the face at a place
one-there : {A : Type 0} (l : List A) (n : ℕ) (d : A) → n < length l → take 1 (drop n l) ≡ get_or l n d ∷ []
one-there l n d h = ap (take 1) (drop-cons l n d h)

-- ---- the code's way to its part

module _ (j : Job) where
  abbrev as_carried : Face → Face
  as_carried = carried_face (has_heights j.year)

  -- the record of the job with one face
  abbrev pub with_one : Face → Job
  with_one f = job_with (record { count = 1; entry = set j.faces.entry 0 f }) j

  one-carried : (f : Face) → 0 < length j.faces.entry
      → carried (with_one f) ≡ with_faces (as_carried f ∷ []) (carried j)
  one-carried f t =
      let l = j.faces.entry in
      ap (λ m. carried (job_with (record { count = 1; entry = m }) j)) (set_split l 0 f t)
      ∙ holding-carried j (f ∷ []) (drop 1 l)

  pub part-reckoned : (f : Face) → 0 < length j.faces.entry → InOrder (with_faces (as_carried f ∷ []) (carried j))
      → stored_in (judged (with_one f)) ≡ part_of_faces (carried j) (as_carried f ∷ [])
  unfolding judged
  part-reckoned f t o =
      let e = one-carried f t in
      ap stored_in (in-order-accepted (carried (with_one f)) (subst InOrder (sym e) o)) ∙ ap stored_of e

  -- face i, from 0, as the sheet carries it
  pub held-face : (i : ℕ) → i < j.faces.count
      → get_or (carried j).faces i no_face ≡ as_carried (get_or j.faces.entry i no_face)
  unfolding carried
  held-face i t =
      let l = first_of no_face j.faces.count j.faces.entry in
      let all = first_of-length no_face j.faces.count j.faces.entry in
      get_d_map as_carried l i no_face no_face (omega (arith, all))
      ∙ ap as_carried (first_of-get_d no_face j.faces.count i j.faces.entry t)

  module _ (o : InOrder (carried j)) (n : ℕ) (low : 1 ≤ n) (high : n ≤ j.faces.count) where
    abbrev f : Face
    f = get_or j.faces.entry (n - 1) no_face

    counted : n - 1 < length (carried j).faces
    counted = omega (arith, many j o)

    pub held-alone : InOrder (with_faces (as_carried f ∷ []) (carried j))
    held-alone =
        let c = carried j in
        let fits = every-at (Fits c) c.faces no_face (n - 1) counted (all_fit c o) in
        alone c o (as_carried f) (subst (Fits c) (held-face (n - 1) (omega arith)) fits)

    -- it is the one at its place in what the sheet carries
    pub held_one : as_carried f ∷ [] ≡ take 1 (drop (n - 1) (carried j).faces)
    held_one =
        ap (λ g. g ∷ []) (sym (held-face (n - 1) (omega arith)))
        ∙ sym (one-there (carried j).faces (n - 1) no_face counted)

abbrev pub held_part : Job → ℤ → Stored
held_part j k = part_of_faces (carried j) (face k (carried j).faces)

-- ---- an edit that is not refused

module _ (j : Job) where
  abbrev c : Carried
  c = carried j

  abbrev h : Bool
  h = has_heights j.year

  new-alone : InOrder c → (k : ℕ) (f : Face) → (new_face k f j).number ≡ 0
      → InOrder (with_faces (carried_face h f ∷ []) c)
  unfolding carried
  new-alone o k f z = alone c o (carried_face h f) (new-fits c f z)

  pub add-alone : InOrder c → (f : Face) → (edit_verdict (Add f) j).number ≡ 0
      → InOrder (with_faces (carried_face h f ∷ []) c)
  add-alone o f z = new-alone o (j.faces.count + 1) f (add-passed j f z).third

  pub replace-alone : InOrder c → (k : ℤ) (f : Face) → (edit_verdict (Replace k f) j).number ≡ 0
      → InOrder (with_faces (carried_face h f ∷ []) c)
  replace-alone o k f z = new-alone o (nat_abs k) f (replace-passed j k f z).third

  pub replace-there : (k : ℤ) (f : Face) → (edit_verdict (Replace k f) j).number ≡ 0 → Within 1 j.faces.count k
  replace-there k f z = there-is j k (replace-passed j k f z).second

  pub take-out-there : (k : ℤ) → (edit_verdict (TakeOut k) j).number ≡ 0 → Within 1 j.faces.count k
  take-out-there k z = there-is j k (take-out-passed j k z).second

  -- it held a job in order
  pub was-in-order : (e : Edit) → (edit_verdict e j).number ≡ 0 → InOrder c
  was-in-order (Add f) z = held-in-order j (held_job j) refl (add-passed j f z).first
  was-in-order (Replace k f) z = held-in-order j (held_job j) refl (replace-passed j k f z).first
  was-in-order (TakeOut k) z = held-in-order j (held_job j) refl (take-out-passed j k z).first

  -- ---- the sums of the one that leaves, and of the one that comes, are small

  held_small : InOrder c → (k : ℤ) → Within 1 j.faces.count k → SumsSmall c (face k c.faces)
  held_small o k t =
      subst (SumsSmall c) (held_one j o (nat_abs k) t.from t.to)
      (in-order-small c _ (held-alone j o (nat_abs k) t.from t.to))

  pub leaving-small : (e : Edit) → (edit_verdict e j).number ≡ 0 → SumsSmall c (leaving e c.faces)
  leaving-small (Add f) z = none-small c
  leaving-small (Replace k f) z = held_small (was-in-order (Replace k f) z) k (replace-there k f z)
  leaving-small (TakeOut k) z = held_small (was-in-order (TakeOut k) z) k (take-out-there k z)

  pub coming-small : (e : Edit) → (edit_verdict e j).number ≡ 0 → SumsSmall c (coming h e)
  coming-small (Add f) z = in-order-small c _ (add-alone (was-in-order (Add f) z) f z)
  coming-small (Replace k f) z = in-order-small c _ (replace-alone (was-in-order (Replace k f) z) k f z)
  coming-small (TakeOut k) z = none-small c

  -- ---- the one in the place of the other

  pub record Placed (e : Edit) : Type 0 where
    pub pre : List Face
    pub post : List Face
    pub was : pre ++ (leaving e c.faces ++ post) ≡ c.faces
    pub now : pre ++ (coming h e ++ post) ≡ edit_carried h e c.faces

  -- before face n, the face, and behind it
  in_three : (fs : List Face) (n : ℕ) → 1 ≤ n → take (n - 1) fs ++ (take 1 (drop (n - 1) fs) ++ drop n fs) ≡ fs
  in_three fs n t =
      let e : n - 1 + 1 ≡ n = omega arith in
      ap (λ m. take (n - 1) fs ++ (take 1 (drop (n - 1) fs) ++ drop m fs)) (sym e)
      ∙ ap (λ l. take (n - 1) fs ++ (take 1 (drop (n - 1) fs) ++ l)) (sym (drop-drop 1 (n - 1) fs))
      ∙ ap (λ l. take (n - 1) fs ++ l) (take-append-drop 1 (drop (n - 1) fs))
      ∙ take-append-drop (n - 1) fs

  pub placed : (e : Edit) → (edit_verdict e j).number ≡ 0 → Placed e
  placed (Add f) z = record { pre = c.faces; post = []; was = append-nil c.faces; now = refl }
  placed (Replace k f) z =
      record {
        pre = take (nat_abs k - 1) c.faces;
        post = drop (nat_abs k) c.faces;
        was = in_three c.faces (nat_abs k) (replace-there k f z).from;
        now = refl;
      }
  placed (TakeOut k) z =
      record {
        pre = take (nat_abs k - 1) c.faces;
        post = drop (nat_abs k) c.faces;
        was = in_three c.faces (nat_abs k) (take-out-there k z).from;
        now = refl;
      }
