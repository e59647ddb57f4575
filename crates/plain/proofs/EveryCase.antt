-- Every choice of every cell, in order, is every case: so what the walk finds is the worst of all cases.
use mathlib.Core.Path.{◌≡◌, refl, sym, ap, ◌∙◌}
use mathlib.Core.Bool.{Bool, true, false, cond}
use mathlib.Core.List.{List, [], ◌∷◌, map, Memᴰ}
use Prim.Native.Nat.{ℕ, ◌≤◌}
use lib.Dec.{eqb}
use lib.IntN.{ℤ, ◌+ℤ◌}
use lib.ListN.{length}
use Rattle.entry.specs.declared.Wind.{Wind}
use Rattle.entry.specs.declared.Face.{Face}
use Rattle.job.specs.declared.Job.{Job}
use Rattle.job.specs.Carried.{Carried, carried}
use Rattle.job.specs.Walk.{judged}
use Rattle.worst.specs.declared.Side.{Side}
use Rattle.worst.specs.declared.Side.TheVariants.{Greatest, Least}
use Rattle.worst.specs.declared.Axis.{Axis}
use Rattle.worst.specs.declared.Axis.TheVariants.{X, Y, Z}
use Rattle.worst.specs.declared.FaceForces.{FaceForces}
use Rattle.worst.specs.declared.Extreme.{Extreme}
use Rattle.worst.specs.declared.Six.{Six}
use Rattle.worst.specs.Best.{none, at}
use Rattle.whole.specs.Lists.{numbers}
use Rattle.worst.specs.Cases.{Loads, each, choices, total, cases, case_total, worst, Chosen}
use Rattle.worst.specs.Quick.{over}
use Rattle.worst.specs.Forces.{Given, acts, outsides, alternatives, force, wind_at, internal_at, loads}
use Rattle.worst.specs.Shown.{shown}
use Rattle.worst.specs.Worst.{given, extreme, six_extremes, shown_in}
use Rattle.worst.specs.PerFace.{face_forces, cell_forces, forces_in}
use Rattle.worst.proofs.Better.{best-over, over-each, over-map, over-same, over-same-in}
use Rattle.worst.proofs.Members.{choices-only}
use Rattle.worst.proofs.OneFace.{OneOrTwo, alone, pair}
use Rattle.worst.specs.Rows.{rows, force_in}
use Rattle.plain.specs.Walked.{alternatives_in, case_with}
use Rattle.worst.specs.Rows.{Taken}
use Rattle.plain.specs.Walked.{valued, walked, cell_walked, wind_walked}
use Rattle.worst.proofs.Rows.{winds-counted, faces-counted, cell-is, rows_are, sound-at, force-same}

-- ---- the worst of all cases, cell by cell

pub worst-walked : {F : Type 0} (s : Side) (l : Loads ℕ ℕ F ℕ)
    → worst s l ≡ over s (λ w. over s (cell_walked s l w) l.internals) l.winds
unfolding worst cases case_total cell_walked
worst-walked s l =
    best-over s (case_total l) (cases l)
    ∙ over-each s _ _ l.winds
    ∙ over-same s _ _
    (λ w.
    over-each s _ _ l.internals
    ∙ over-same s _ _ (λ i. over-map s _ (case_with w i) (choices (l.alternatives w) l.faces)) l.internals)
    l.winds

-- ---- choices of what stands for the faces

module _ {F G A : Type 0} (h : F → G) (a : F → List A) (b : G → List A) where
  pub choices-map : (fs : List F) → ((f : F) → Memᴰ f fs → a f ≡ b (h f))
      → choices a fs ≡ choices b (map h fs)
  unfolding choices
  choices-map [] e = refl
  choices-map (f ∷ fs) e =
      λ j. each (e f (Memᴰ.head refl) j)
      (λ k. map (λ ks. k ∷ ks) (choices-map fs (λ g m. e g (Memᴰ.tail m)) j))

  pub total-map : (force : F → A → ℤ) (value : G → A → ℤ) (fs : List F)
      → ((f : F) → Memᴰ f fs → (k : A) → Memᴰ k (a f) → force f k ≡ value (h f) k)
      → (ks : List A) → Chosen a fs ks → total force fs ks ≡ total value (map h fs) ks
  unfolding total
  total-map force value [] e ks c = refl
  total-map force value (f ∷ fs) e [] c = refl
  total-map force value (f ∷ fs) e (k ∷ ks) c =
      λ j. e f (Memᴰ.head refl) k c.0 j
      +ℤ total-map force value fs (λ g m. e g (Memᴰ.tail m)) ks c.1 j

-- ---- one face: what is handed over stands for it

module _ (g : Given) (w : Wind) (i : ℤ) (f : Face) (sound : acts f w.direction ≡ true → OneOrTwo (outsides g w f))
  where
    alternatives-same : alternatives g w f ≡ alternatives_in (face_forces g w i f)
    unfolding face_forces numbers
    alternatives-same = go (acts f w.direction) sound
      where
        two : (outs : List ℤ) → OneOrTwo outs
            → numbers (length outs) 1 ≡ cond (eqb (length (numbers (length outs) 1)) 2) (1 ∷ 2 ∷ []) (1 ∷ [])
        two outs (alone v) = refl
        two outs (pair v u) = refl

        go : (t : Bool) → (t ≡ true → OneOrTwo (outsides g w f))
            → let l = cond t (numbers (length (outsides g w f)) 1) (1 ∷ []) in
            l ≡ cond (eqb (length l) 2) (1 ∷ 2 ∷ []) (1 ∷ [])
        go true h = two (outsides g w f) (h refl)
        go false h = refl

-- ---- one cell of a job

module _ (j : Job) (t : Taken j) (axis : Axis) (s : Side) (w i : ℕ) (from : 1 ≤ w) (to : w ≤ j.winds.count) where
  abbrev g : Given
  g = given (carried j)

  abbrev l : Loads ℕ ℕ Face ℕ
  l = loads axis g

  abbrev u : Wind
  u = wind_at g w

  abbrev row : Face → FaceForces
  row = face_forces g u (internal_at g i)

  -- every choice for the faces is every choice for what is handed over, with the same total
  pub cell-walked
      : let all = rows j.faces.count (cell_forces g u (internal_at g i)) in
      walked s (total (force_in axis) all) w i all ≡ cell_walked s l w i
  unfolding walked cell_walked
  cell-walked =
      (λ k.
      let all = rows_are j t u (internal_at g i) k in
      over s (valued (total (force_in axis) all) w i) (choices alternatives_in all))
      ∙ ap (over s (valued (total (force_in axis) (map row g.faces)) w i))
      (sym (choices-map row (l.alternatives w) alternatives_in g.faces
      (λ f m. alternatives-same g u (internal_at g i) f (sound-at j t w from to f m))))
      ∙ over-same-in s _ _ (choices (l.alternatives w) g.faces)
      (λ ks m.
      ap (λ v. at v (case_with w i ks))
      (sym (total-map row (l.alternatives w) alternatives_in (l.force w i) (force_in axis) g.faces
      (λ f mf k mk. force-same g u (internal_at g i) f (sound-at j t w from to f mf) axis k mk) ks
      (choices-only (l.alternatives w) g.faces ks m))))

-- ---- all of them

-- the walk over the faces, with the forces that are handed over
pub walked_here : (j : Job) (t : Taken j) (axis : Axis) (s : Side) (w i : ℕ) → 1 ≤ w → w ≤ j.winds.count → 1 ≤ i
    → i ≤ j.internals.count → (all : List FaceForces) → all ≡ rows j.faces.count (forces_in w i (judged j))
    → walked s (total (force_in axis) all) w i all ≡ cell_walked s (loads axis (given (carried j))) w i
walked_here j t axis s w i a b c d all e =
    let same = e ∙ ap (rows j.faces.count) (cell-is j t w i a b c d) in
    (λ k. walked s (total (force_in axis) (same k)) w i (same k)) ∙ cell-walked j t axis s w i a b

-- what shows the best of every wind is an extreme of the job
pub extreme-is : (j : Job) (t : Taken j) (axis : Axis) (s : Side) (e : Extreme)
    → e ≡ shown j.faces.count (over s (wind_walked axis s (carried j)) (numbers j.winds.count 1))
    → e ≡ extreme axis s (carried j)
extreme-is j t axis s e h =
    h
    ∙ (λ k.
    shown (sym (faces-counted j t) k)
    (over s (wind_walked axis s (carried j)) (numbers (sym (winds-counted j t) k) 1)))
    ∙ ap (shown (length (carried j).faces)) (sym (worst-walked s (loads axis (given (carried j)))))

-- six that are known one by one
six-from : (e : Axis → Side → Extreme) (six : Six) → ((axis : Axis) (s : Side) → shown_in six axis s ≡ e axis s)
    → six ≡ record {
      x = record { greatest = e X Greatest; least = e X Least };
      y = record { greatest = e Y Greatest; least = e Y Least };
      z = record { greatest = e Z Greatest; least = e Z Least };
    }
six-from e six h =
    λ k. record {
      x = record { greatest = h X Greatest k; least = h X Least k };
      y = record { greatest = h Y Greatest k; least = h Y Least k };
      z = record { greatest = h Z Greatest k; least = h Z Least k };
    }

pub six-are : (c : Carried) (six : Six) → ((axis : Axis) (s : Side) → shown_in six axis s ≡ extreme axis s c)
    → six ≡ six_extremes c
unfolding six_extremes
six-are c = six-from (λ axis s. extreme axis s c)
