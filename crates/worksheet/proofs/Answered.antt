-- The answer to an edit of a worksheet, from that to the same edit of its job and the parts of the faces.
use mathlib.Core.Path.{◌≡◌, sym, ap, ◌∙◌}
use mathlib.Core.Bool.{cond}
use borrow.Author.Tests.{eq-eqb, ne_eqb}
use Rattle.verdict.specs.Verdict.{Refuses}
use Rattle.building.specs.Year.{has_heights}
use Rattle.job.specs.declared.Job.{Job}
use Rattle.job.specs.Carried.{Carried, carried}
use Rattle.job.specs.Walk.{judged}
use Rattle.worst.specs.declared.Stored.{Stored}
use Rattle.worst.specs.Stored.{stored_in}
use Rattle.worst.specs.Within.{most_newtons, all_within}
use Rattle.edits.specs.declared.EditedJob.{EditedJob}
use Rattle.edits.specs.Edits.{Edit, edit_verdict, edit_faces, job_with, edited_job}
use Rattle.edits.proofs.Accepted.{edited-accepted}
use Rattle.worksheet.specs.declared.Worksheet.{Worksheet}
use Rattle.worksheet.specs.Kept.{leaving, coming, part_of_faces, moved, sums_after}
use Rattle.worksheet.specs.Worksheet.{edited}
use Rattle.worksheet.specs.FromParts.{kept_of}
use Rattle.worksheet.proofs.OneFace.{was-in-order}

module _ (e : Edit) (w : Worksheet) (to : EditedJob) (p : to ≡ edited_job e w.job) where
  abbrev j : Job
  j = w.job

  abbrev c : Carried
  c = carried j

  same-verdict : to.verdict ≡ edit_verdict e j
  unfolding edited_job
  same-verdict = ap (λ a. a.verdict) p

  pub refused-is : Refuses to.verdict → record { verdict = to.verdict; worksheet = w } ≡ edited e w
  unfolding edited
  refused-is h =
      rw (ne_eqb (edit_verdict e j).number 0 (λ z. h (ap (λ v. v.number) same-verdict ∙ z)))
      (ap (λ v. record { verdict = v; worksheet = w }) same-verdict)

  module _ (z : to.verdict.number ≡ 0) where
    pub passes : (edit_verdict e j).number ≡ 0
    passes = sym (ap (λ v. v.number) same-verdict) ∙ z

    job-after : to.job ≡ job_with (edit_faces e j) j
    unfolding edited_job
    job-after = ap (λ a. a.job) p ∙ rw (eq-eqb (edit_verdict e j).number 0 passes)

    pub taken_is : (out new : Stored) → out ≡ part_of_faces c (leaving e c.faces)
        → new ≡ part_of_faces c (coming (has_heights j.year) e)
        → record {
          verdict = to.verdict;
          worksheet = record { job = to.job; sums = kept_of w.sums to.job out new };
        }
        ≡ edited e w
    unfolding edited sums_after
    taken_is out new hout hnew =
        let anew = ap (λ (k : Job). stored_in (judged k)) job-after
        ∙ ap stored_in (edited-accepted j (was-in-order j e passes) e passes) in
        (λ i. record {
          verdict = same-verdict i;
          worksheet = record {
            job = job-after i;
            sums = cond (all_within (most_newtons (job-after i).year) w.sums.cell)
                (moved w.sums (hout i) (hnew i)) (anew i);
          };
        })
        ∙ rw (eq-eqb (edit_verdict e j).number 0 passes)
