-- The verdict of an edit: refused for the first of its faults, and accepted where there is none.
use mathlib.Core.Path.{◌≡◌, refl, sym, ap, ◌∙◌}
use mathlib.Core.Bool.{Bool, true, false}
use Prim.Native.Nat.{ℕ, suc, ◌+◌, ◌<◌}
use native.Mathlib.Omega.{arith}
use lib.Dec.{ltb}
use lib.IntN.{ℤ, pos, nat_abs}
use borrow.Author.Tests.{not-true, ltb-true, ne_eqb}
use Rattle.verdict.specs.declared.Verdict.{Verdict}
use Rattle.verdict.specs.Verdict.{accepted, ◌or_then◌, Refuses}
use Rattle.verdict.proofs.After.{then-later, then-earlier, then-passed}
use Rattle.building.specs.Test.{within, unless}
use Rattle.building.proofs.Accepted.{Within}
use Rattle.building.proofs.Accepted as range
use Rattle.building.specs.Year.{face_limit}
use Rattle.entry.specs.declared.Face.{Face}
use Rattle.job.specs.declared.Job.{Job}
use Rattle.job.specs.declared.Faces.{Faces}
use Rattle.job.specs.Carried.{carried}
use Rattle.edits.specs.declared.EditedJob.{EditedJob}
use Rattle.edits.specs.Edits.{Edit, Add, Replace, TakeOut, held_job, no_such_face, full, only_face, new_face}
use Rattle.edits.specs.Edits.{edit_verdict, edit_faces, job_with, edited_job}

-- ---- three checks, one after the other

module _ (u v w : Verdict) where
  abbrev checks : Verdict
  checks = u or_then v or_then w or_then accepted

  pub record Passed : Type 0 where
    pub first : u.number ≡ 0
    pub second : v.number ≡ 0
    pub third : w.number ≡ 0

  all-passed : checks.number ≡ 0 → Passed
  all-passed e =
      let p = then-passed u (v or_then w or_then accepted) e in
      let q = then-passed v (w or_then accepted) p.1 in
      record { first = p.0; second = q.0; third = (then-passed w accepted q.1).0 }

  none_found : Passed → checks ≡ accepted
  none_found p = then-later u _ p.first ∙ then-later v _ p.second ∙ then-later w _ p.third

module _ (j : Job) where
  pub add-passed : (f : Face) → (edit_verdict (Add f) j).number ≡ 0
      → Passed (held_job j) (full j) (new_face (j.faces.count + 1) f j)
  unfolding edit_verdict
  add-passed f e = all-passed (held_job j) (full j) (new_face (j.faces.count + 1) f j) e

  pub replace-passed : (k : ℤ) (f : Face) → (edit_verdict (Replace k f) j).number ≡ 0
      → Passed (held_job j) (no_such_face k j) (new_face (nat_abs k) f j)
  unfolding edit_verdict
  replace-passed k f e = all-passed (held_job j) (no_such_face k j) (new_face (nat_abs k) f j) e

  pub take-out-passed : (k : ℤ) → (edit_verdict (TakeOut k) j).number ≡ 0
      → Passed (held_job j) (no_such_face k j) (only_face j)
  unfolding edit_verdict
  take-out-passed k e = all-passed (held_job j) (no_such_face k j) (only_face j) e

  pub verdict-accepted : (e : Edit) → (edit_verdict e j).number ≡ 0 → edit_verdict e j ≡ accepted
  unfolding edit_verdict
  verdict-accepted (Add f) z = none_found _ _ _ (add-passed f z)
  verdict-accepted (Replace k f) z = none_found _ _ _ (replace-passed k f z)
  verdict-accepted (TakeOut k) z = none_found _ _ _ (take-out-passed k z)

  -- ---- what each check says

  unless-none : (n : ℕ) (t : Bool) → unless (suc n) t ≡ 0 → t ≡ true
  unless-none n true e = refl
  unless-none n false e = absurd (omega arith)

  pub there-is : (k : ℤ) → (no_such_face k j).number ≡ 0 → Within 1 j.faces.count k
  there-is k e =
      range.within 1 j.faces.count k
      (not-true _ (unless-none 8 (within (pos 1) (pos j.faces.count) k) e))

  pub has_room : (full j).number ≡ 0 → j.faces.count < face_limit (carried j).year
  unfolding carried
  has_room e =
      let n = face_limit j.year in
      ltb-true j.faces.count n (unless-none 1 (ltb j.faces.count n) e)

  pub not-only : (only_face j).number ≡ 0 → 1 < j.faces.count
  not-only e = ltb-true 1 j.faces.count (unless-none 1 (ltb 1 j.faces.count) e)

  -- ---- the held job, as it was judged

  pub held-refused : {v : Verdict} (w : Verdict) → v ≡ held_job j → Refuses v → v ≡ (held_job j or_then w)
  held-refused w e h = e ∙ sym (then-earlier (held_job j) w (λ z. h (ap (λ u. u.number) e ∙ z)))

  pub held-passed : {v : Verdict} (w : Verdict) → v ≡ held_job j → v.number ≡ 0 → (held_job j or_then w) ≡ w
  held-passed w e z = then-later (held_job j) w (sym (ap (λ u. u.number) e) ∙ z)

-- ---- the answer to an edit

module _ (e : Edit) (j : Job) where
  pub edit-refused : {v : Verdict} → v ≡ edit_verdict e j → Refuses v → record { verdict = v; job = j } ≡ edited_job e j
  unfolding edited_job
  edit-refused {v} q r = rw q (rw (ne_eqb (edit_verdict e j).number 0 (λ z. r (ap (λ u. u.number) q ∙ z))))

  -- with the faces that it makes
  pub edit-taken : {v : Verdict} {r : Faces} {a : EditedJob} → v ≡ edit_verdict e j → v.number ≡ 0
      → a ≡ record { verdict = accepted; job = job_with r j } → r ≡ edit_faces e j → a ≡ edited_job e j
  unfolding edited_job
  edit-taken q z p s =
      p ∙ ap (λ r. record { verdict = accepted; job = job_with r j }) s
      ∙ rw (verdict-accepted j e (sym (ap (λ u. u.number) q) ∙ z))
