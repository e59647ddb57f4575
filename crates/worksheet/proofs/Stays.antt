-- An edit of a worksheet edits its job: an accepted one stays accepted, and a refused edit leaves all as it was.
use mathlib.Core.Bool.{true}
use mathlib.Core.Path.{◌≡◌, sym, ap, ◌∙◌, subst}
use lib.Dec.{eqb}
use borrow.Author.Tests.{eqb-true, ne_eqb}
use Rattle.whole.proofs.Tests.{by-test}
use Rattle.verdict.specs.Verdict.{Refuses}
use Rattle.building.specs.Year.{has_heights}
use Rattle.job.specs.declared.Job.{Job}
use Rattle.job.specs.Carried.{Carried, carried, with_faces}
use Rattle.job.specs.InOrder.{InOrder}
use Rattle.job.specs.Walk.{Accepted, judged}
use Rattle.job.proofs.RoundTrip.{judged-carried}
use Rattle.worst.specs.Stored.{stored_of}
use Rattle.worst.specs.Within.{most_newtons, all_within}
use Rattle.worst.proofs.SumsWithin.{own-within}
use Rattle.edits.specs.Edits.{Edit, edit_verdict, edit_faces, job_with, edited_job}
use Rattle.edits.proofs.Accepted.{fit-in-order, edit_carried, carried-edited, in-order-edited, edited-stays}
use Rattle.worksheet.specs.declared.Worksheet.{Worksheet}
use Rattle.worksheet.specs.Kept.{leaving, coming, part_of_faces, moved, sums_after}
use Rattle.worksheet.specs.Worksheet.{edited}
use Rattle.worksheet.proofs.OneFace.{was-in-order, leaving-small, coming-small, placed}
use Rattle.worksheet.proofs.Exchange.{moved-stored}

module _ (e : Edit) (w : Worksheet) where
  pub job-edited : (edited e w).worksheet.job ≡ (edited_job e w.job).job
  unfolding edited edited_job
  job-edited = by-test (eqb (edit_verdict e w.job).number 0) (λ t. rw t) (λ t. rw t)

  pub edited-accepted : (c : Carried) → judged w.job ≡ Accepted c
      → (d : Carried) × (judged (edited e w).worksheet.job ≡ Accepted d)
  edited-accepted c a = let k = edited-stays e w.job c a in (k.0, ap judged job-edited ∙ k.1)

  pub refused-stays : Refuses (edited e w).verdict → (edited e w).worksheet ≡ w
  unfolding edited
  refused-stays h = rw (ne_eqb (edit_verdict e w.job).number 0 h)

-- ---- the sums that it stores

module _ (e : Edit) (w : Worksheet) where
  abbrev j : Job
  j = w.job

  within : InOrder (carried j) → all_within (most_newtons j.year) (stored_of (carried j)).cell ≡ true
  unfolding carried
  within o = own-within (carried j) o

  -- those kept by an edit that is not refused are those of the job after it
  kept-true : (edit_verdict e j).number ≡ 0 → w.sums ≡ stored_of (carried j)
      → sums_after e w ≡ stored_of (carried (job_with (edit_faces e j) j))
  unfolding sums_after
  kept-true z held =
      let o = was-in-order j e z in
      let c = carried j in
      let h = has_heights j.year in
      let p = placed j e z in
      let fits = in-order-edited j o e z in
      let after = fit-in-order c o (edit_carried h e c.faces) fits.0 fits.1 in
      let out = leaving e c.faces in
      let new = coming h e in
      rw held
      (rw (within o)
      (ap (λ l. moved (stored_of (with_faces l c)) (part_of_faces c out) (part_of_faces c new)) (sym p.was)
      ∙ moved-stored c p.pre out new p.post (subst (λ l. InOrder (with_faces l c)) (sym p.was) o)
      (subst (λ l. InOrder (with_faces l c)) (sym p.now) after) (leaving-small j e z) (coming-small j e z)
      ∙ ap (λ l. stored_of (with_faces l c)) p.now
      ∙ ap stored_of (sym (carried-edited j o e))))

  -- whatever the edit, refused or not: sums that are those of the job stay so
  pub sums-stay : (c d : Carried) → judged j ≡ Accepted c → w.sums ≡ stored_of c
      → judged (edited e w).worksheet.job ≡ Accepted d → (edited e w).worksheet.sums ≡ stored_of d
  unfolding edited
  sums-stay c d a held =
      by-test (eqb (edit_verdict e j).number 0)
      (λ t. rw t (λ b.
      kept-true (eqb-true (edit_verdict e j).number 0 t) (held ∙ ap stored_of (judged-carried j c a))
      ∙ ap stored_of (sym (judged-carried (job_with (edit_faces e j) j) d b))))
      (λ t. rw t (λ b. held ∙ ap stored_of (judged-carried j c a ∙ sym (judged-carried j d b))))
