-- Faces that stand as numbers in a lent list: which the list has, and that a record's faces, laid there, are the same
-- job.
use mathlib.Core.Path.{◌≡◌, sym, ap, ◌∙◌}
use mathlib.Core.List.{List, map}
use Prim.Native.Nat.{ℕ, ◌+◌, ◌≤◌, ◌<◌}
use native.Mathlib.Omega.{arith}
use lib.IntN.{ℤ}
use lib.ListN.{length, get_or}
use Rattle.whole.specs.Lists.{first_of, numbers}
use Rattle.whole.proofs.Lists.{get_d_map, first_of-length, first_of-get_d, first_of-all}
use Rattle.whole.proofs.Numbers.{length-numbers, numbers-at, by-places}
use Rattle.building.specs.Year.{has_heights}
use Rattle.entry.specs.declared.Face.{Face}
use Rattle.entry.specs.Flat.{face_in, faces_in}
use Rattle.entry.specs.Says.{carried_face}
use Rattle.entry.proofs.Flat.{faces-length}
use Rattle.job.specs.declared.Faces.{Faces}
use Rattle.job.specs.declared.Job.{Job}
use Rattle.job.specs.declared.Setting.{Setting}
use Rattle.job.specs.Setting.{setting_in}
use Rattle.job.specs.Carried.{carried, with_faces, no_face}
use Rattle.worst.specs.Lent.{job_by, Numbered}

-- ---- the first n that a list has

module _ (n : ℕ) (l : List ℤ) where
  pub face-at : (i : ℕ) → i < n → get_or (faces_in n l) i no_face ≡ face_in l i
  unfolding faces_in
  face-at i h =
      let e : 0 + i ≡ i = omega arith in
      get_d_map (face_in l) (numbers n 0) i 0 no_face (omega (arith, length-numbers n 0))
      ∙ ap (face_in l) (numbers-at n 0 i 0 h ∙ e)

  -- as a record they are all that it counts
  pub faces-all : first_of no_face n (faces_in n l) ≡ faces_in n l
  faces-all = ap (λ k. first_of no_face k (faces_in n l)) (sym (faces-length n l)) ∙ first_of-all no_face (faces_in n l)

-- ---- those of a record, laid there

-- face by face what the record has
abbrev pub Laid : Faces → List ℤ → Type 0
Laid fs l = (i : ℕ) → i < fs.count → face_in l i ≡ get_or fs.entry i no_face

pub lent-faces : (fs : Faces) (l : List ℤ) → Laid fs l → faces_in fs.count l ≡ first_of no_face fs.count fs.entry
unfolding faces_in
lent-faces fs l h =
    let n = fs.count in
    let all = first_of no_face n fs.entry in
    let long = first_of-length no_face n fs.entry in
    ap (λ k. map (face_in l) (numbers k 0)) (sym long)
    ∙ sym (by-places no_face (face_in l) all 0
    (λ i t.
    let below : i < n = omega (arith, long) in
    let e : i ≡ 0 + i = omega arith in
    first_of-get_d no_face n i fs.entry below ∙ sym (h i below) ∙ ap (face_in l) e))

-- the first n of more
pub faces-fewer : (n m : ℕ) (l : List ℤ) → n ≤ m → faces_in n l ≡ first_of no_face n (faces_in m l)
faces-fewer n m l h =
    lent-faces (record { count = n; entry = faces_in m l }) l (λ i t. sym (face-at m l i (omega arith)))

pub lent-carried : (j : Job) (l : List ℤ) → Laid j.faces l
    → carried (job_by (setting_in j) j.faces.count l) ≡ carried j
unfolding carried
lent-carried j l h =
    ap (λ (fs : List Face). with_faces (map (carried_face (has_heights j.year)) fs) (carried j))
    (faces-all j.faces.count l ∙ lent-faces j.faces l h)

-- with any setting that is the record's
pub lent_same : (j : Job) (s : Setting) (l : List ℤ) → s ≡ setting_in j → Laid j.faces l
    → carried (job_by s j.faces.count l) ≡ carried j
lent_same j s l e h = ap (λ t. carried (job_by t j.faces.count l)) e ∙ lent-carried j l h

-- there is room for all
pub lent-numbered : (n : ℕ) (l : List ℤ) → n ≤ 240 → length l ≡ 1440 → Numbered n l
lent-numbered n l h e = record { few = h; stand = omega arith }
