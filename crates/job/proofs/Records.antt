-- The record of what a sheet carries: it carries that, it is accepted as the sheet was, and it is the same job as the
-- record that was written.
use Prim.Native.Nat.{ℕ, ◌≤◌}
use mathlib.Core.Path.{◌≡◌, refl, ap, ◌∙◌, sym}
use mathlib.Core.Logic.{⊎_elim}
use mathlib.Core.Bool.{Bool, cond, true≢false}
use mathlib.Core.List.{List, [], map}
use lib.ListN.{length}
use lib.IntN.{pos}
use Rattle.whole.specs.Lists.{first_of}
use Rattle.whole.proofs.Lists.{first_of-fewer, first_of-all}
use Rattle.field.specs.declared.Field.{Field}
use Rattle.job.specs.declared.Job.{Job}
use Rattle.job.specs.Carried.{Carried, no_wind, no_step, no_face, carried, most_faces, recorded, SameJob}
use Rattle.entry.specs.declared.Face.{Face}
use Rattle.building.specs.Year.{has_heights}
use Rattle.entry.specs.Says.{carried_face}
use Rattle.job.specs.Lines.{lines_of}
use Rattle.job.specs.Walk.{Accepted, read_lines, judged}
use Rattle.job.specs.InOrder.{OfYear1, OfLaterYear, InOrder}
use Rattle.job.proofs.Years.{later-heights, faces-kept}
use Rattle.job.proofs.Room.{few-faces}
use Rattle.job.proofs.RoundTrip.{judged-carried}
use Rattle.job.proofs.InOrder.{accepted-in-order, in-order-accepted}

-- ---- the same job

pub same_refl : (j : Job) → SameJob j j
same_refl j = refl

pub same-sym : (j k : Job) → SameJob j k → SameJob k j
same-sym j k e = sym e

pub same-trans : (j k l : Job) → SameJob j k → SameJob k l → SameJob j l
same-trans j k l e h = e ∙ h

-- and it is judged the same
pub same-judged : (j k : Job) → SameJob j k → judged j ≡ judged k
unfolding judged
same-judged j k e = ap (λ (c : Carried). read_lines (lines_of c)) e

-- ---- a list put into a room that holds it, and taken out again

roomed : {A : Type 0} (d : A) (room : ℕ) (l : List A) → length l ≤ room → first_of d (length l) (first_of d room l) ≡ l
roomed d room l h = first_of-fewer d (length l) room l h ∙ first_of-all d l

recorded-low : (c : Carried) → OfYear1 c → length c.winds ≤ 8 → length c.internals ≤ 4
    → length c.faces ≤ most_faces → carried (recorded c) ≡ c
unfolding carried recorded
recorded-low c y w i f =
    let e = ap has_heights y.year in
    λ k. record {
      year = c.year;
      building = c.building;
      winds = roomed no_wind 8 c.winds w k;
      internals = roomed (pos 0) 4 c.internals i k;
      profile =
          (ap (λ (h : Bool). cond h (first_of no_step (length c.profile) (first_of no_step 16 c.profile)) []) e
          ∙ sym y.profile) k;
      faces =
          (ap (λ (l : List Face). map (carried_face (has_heights c.year)) l) (roomed no_face most_faces c.faces f)
          ∙ faces-kept (has_heights c.year) c.faces (λ q. y.heights)) k;
    }

recorded-tall : (c : Carried) → OfLaterYear c → length c.winds ≤ 8 → length c.internals ≤ 4
    → length c.faces ≤ most_faces → carried (recorded c) ≡ c
unfolding carried recorded
recorded-tall c y w i f =
    let e = later-heights c.year y.year in
    λ k. record {
      year = c.year;
      building = c.building;
      winds = roomed no_wind 8 c.winds w k;
      internals = roomed (pos 0) 4 c.internals i k;
      profile =
          (ap (λ (h : Bool). cond h (first_of no_step (length c.profile) (first_of no_step 16 c.profile)) []) e
          ∙ roomed no_step 16 c.profile y.counted.high) k;
      faces =
          (ap (λ (l : List Face). map (carried_face (has_heights c.year)) l) (roomed no_face most_faces c.faces f)
          ∙ faces-kept (has_heights c.year) c.faces (λ q. absurd (true≢false (sym e ∙ q)))) k;
    }

-- ---- what was read

pub in-order-recorded : (c : Carried) → InOrder c → carried (recorded c) ≡ c
in-order-recorded c o =
    let w = o.winds-counted.high in
    let i = o.internals-counted.high in
    let f = few-faces c o in
    ⊎_elim (λ y. recorded-low c y w i f) (λ y. recorded-tall c y w i f) o.form

-- the record of an accepted sheet is accepted, and read as the sheet was
pub recorded-accepted : (xs : List (List Field)) (c : Carried) → read_lines xs ≡ Accepted c
    → judged (recorded c) ≡ Accepted c
unfolding judged
recorded-accepted xs c a =
    let o = accepted-in-order xs c a in
    ap (λ (d : Carried). read_lines (lines_of d)) (in-order-recorded c o) ∙ in-order-accepted c o

-- what is read of an accepted record's sheet is the same job, with nothing left that the sheet does not carry
pub same-recorded : (j : Job) (c : Carried) → judged j ≡ Accepted c
    → SameJob j (recorded c) × (recorded c ≡ recorded (carried j))
unfolding judged
same-recorded j c a =
    let e = judged-carried j c a in
    (sym e ∙ sym (in-order-recorded c (accepted-in-order (lines_of (carried j)) c a)), ap recorded e)
