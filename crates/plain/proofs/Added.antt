-- The totals of a choice, face by face: one face more, and how large they can become.
use mathlib.Core.Path.{◌≡◌, sym, ap, ◌∙◌}
use mathlib.Core.Bool.{Bool, true, false, cond}
use mathlib.Core.List.{List, [], ◌∷◌, ◌++◌}
use Prim.Native.Nat.{ℕ, ◌+◌, ◌*◌, ◌≤◌, ◌<◌}
use native.Mathlib.Omega.{arith}
use lib.Dec.{eqb}
use lib.IntN.{ℤ, nat_abs, ◌+ℤ◌, +ℤ_assoc, +ℤ_idl, +ℤ_idr}
use lib.ListN.{length, get_or, take}
use lib.Seq.{length-take-le}
use Rattle.std.proofs.lemmas.List.{take_more}
use Rattle.whole.specs.Lists.{first_of, Every}
use Rattle.whole.proofs.Lists.{first_of-length, every-at}
use Rattle.whole.proofs.FirstOf.{first_of-next}
use Rattle.whole.proofs.Pieces.{every_first}
use Rattle.whole.proofs.Size.{nat_abs-add}
use Rattle.job.specs.Carried.{most_faces}
use Rattle.pair.specs.Total.{pair_of, pair_sum}
use Rattle.pair.proofs.Sums.{sum-pair_of}
use Rattle.worst.specs.declared.Axis.{Axis}
use Rattle.worst.specs.declared.Axis.TheVariants.{X, Y, Z}
use Rattle.worst.specs.declared.AxisForces.{AxisForces}
use Rattle.worst.specs.declared.FaceForces.{FaceForces}
use Rattle.worst.specs.Cases.{total}
use Rattle.worst.specs.PerFace.{no_face_forces}
use Rattle.worst.specs.Rows.{taken_at, along_axis, force_in}
use Rattle.plain.specs.Walked.{plus, totals_of, most_force, ForceSmall, RowSmall}

-- ---- bounds

along-small : (axis : Axis) (f : AxisForces) → ForceSmall f → nat_abs (along_axis axis f) ≤ most_force
along-small X f h = h.x
along-small Y f h = h.y
along-small Z f h = h.z

force-small : (axis : Axis) (f : FaceForces) (k : ℕ) → RowSmall f → nat_abs (force_in axis f k) ≤ most_force
force-small axis f k h = go (eqb k 1)
  where
    go : (t : Bool) → nat_abs (along_axis axis (cond t f.first f.last)) ≤ most_force
    go true = along-small axis f.first h.first
    go false = along-small axis f.last h.last

total-small : (axis : Axis) (fs : List FaceForces) (ks : List ℕ) → Every RowSmall fs
    → nat_abs (total (force_in axis) fs ks) ≤ length fs * most_force
unfolding total
total-small axis [] ks h = omega arith
total-small axis (f ∷ fs) [] h = omega arith
total-small axis (f ∷ fs) (k ∷ ks) h =
    omega (
      arith,
      nat_abs-add (force_in axis f k) (total (force_in axis) fs ks),
      force-small axis f k h.0,
      total-small axis fs ks h.1,
    )

-- ---- one face more

module _ {F A : Type 0} (force : F → A → ℤ) (f : F) (k : A) where
  total-snoc : (fs : List F) (ks : List A) → length fs ≡ length ks
      → total force fs ks +ℤ force f k ≡ total force (fs ++ (f ∷ [])) (ks ++ (k ∷ []))
  unfolding total
  total-snoc [] [] e = +ℤ_idl (force f k) ∙ sym (+ℤ_idr (force f k))
  total-snoc [] (a ∷ ks) e = absurd (omega arith)
  total-snoc (g ∷ fs) [] e = absurd (omega arith)
  total-snoc (g ∷ fs) (a ∷ ks) e =
      +ℤ_assoc (force g a) (total force fs ks) (force f k)
      ∙ ap (λ z. force g a +ℤ z) (total-snoc fs ks (omega arith))

-- the next face's force at its alternative
module _ (fs : List FaceForces) (choice : List ℕ) (i : ℕ) (here : i < length fs) (few : i < most_faces)
    (small : Every RowSmall fs) where
  abbrev before : List FaceForces
  before = take i fs

  abbrev f : FaceForces
  f = get_or fs i no_face_forces

  abbrev ks : List ℕ
  ks = first_of 0 i choice

  abbrev k : ℕ
  k = get_or choice i 0

  -- those before it, and it
  with-next : before ++ (f ∷ []) ≡ take (i + 1) fs
  with-next = sym (take_more fs i no_face_forces here)

  on-axis : (axis : Axis)
      → pair_sum (pair_of (total (force_in axis) before ks)) (pair_of (force_in axis f k))
      ≡ pair_of (total (force_in axis) (take (i + 1) fs) (first_of 0 (i + 1) choice))
  on-axis axis =
      let long = length-take-le i fs (omega arith) in
      sum-pair_of (total (force_in axis) before ks) (force_in axis f k)
      (omega (arith, total-small axis before ks (every_first RowSmall i fs small), long))
      (omega (arith, force-small axis f k (every-at RowSmall fs no_face_forces i here small)))
      ∙ ap pair_of
      (total-snoc (force_in axis) f k before ks (long ∙ sym (first_of-length 0 i choice))
      ∙ (λ j. total (force_in axis) (with-next j) (first_of-next 0 choice i j)))

  pub total-next : plus (totals_of before ks) (taken_at f k) ≡ totals_of (take (i + 1) fs) (first_of 0 (i + 1) choice)
  total-next = λ j. record { x = on-axis X j; y = on-axis Y j; z = on-axis Z j }
