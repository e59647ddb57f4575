-- Reading and writing undo each other, said of texts and buffers.
use mathlib.Core.Path.{◌≡◌, ap, subst, ◌∙◌}
use mathlib.Core.List.{List}
use Prim.Native.Nat.{ℕ}
use lib.ListN.{length, take, drop}
use lib.Seq.{take-append_seam}
use Rattle.std.specs.Prelude.{Ok}
use Rattle.verdict.specs.Verdict.{accepted}
use Rattle.page.specs.Writing.{Writing}
use Rattle.job.specs.declared.Job.{Job}
use Rattle.job.specs.Carried.{Carried, carried, recorded, SameJob}
use Rattle.job.specs.Walk.{Reading, Accepted, judged}
use Rattle.sheet.specs.Sheet.{reading, answer, sheet_text, job_writing, job_buffer}
use Rattle.sheet.proofs.RoundTrip.{read-written, read-rewritten, written_read, written_same}
use Rattle.job.proofs.RoundTrip.{judged-carried}
use Rattle.claims.specs.Written.{Written, put}
use Rattle.claims.proofs.Written.{writing-written}

-- ---- a text about an accepted job, written

module _ (text : Carried → List ℕ) {x : Reading} {c : Carried} (a : x ≡ Accepted c) (before : List ℕ) where
  pub job-written : {after : List ℕ} {w : Writing}
      → (w ≡ job_writing text x before) × (after ≡ job_buffer text x before) → Written (text c) before after w
  job-written p =
      rw (p.0 ∙ ap (λ x. job_writing text x before) a, p.1 ∙ ap (λ x. job_buffer text x before) a)
      (writing-written (text c) before)

-- ---- a sheet read and written again

pub sheet-again : (s : List ℕ) (c : Carried) → reading s ≡ Accepted c
    → (before : List ℕ) {after : List ℕ} {w : Writing}
    → (w ≡ job_writing sheet_text (judged (answer (reading s)).job) before)
    × (after ≡ job_buffer sheet_text (judged (answer (reading s)).job) before)
    → Written s before after w
sheet-again s c a before p =
    let e = read-rewritten s c a before in
    rw (p.0 ∙ e.0, p.1 ∙ e.1) (writing-written s before)

-- so from C, where both are one call
pub rewritten : (s : List ℕ) (c : Carried) → reading s ≡ Accepted c → (before : List ℕ) {after : List ℕ} {w : Writing}
    → (w ≡ job_writing sheet_text (reading s) before) × (after ≡ job_buffer sheet_text (reading s) before)
    → Written s before after w
rewritten s c a before {after} {w} p =
    subst (λ (t : List ℕ). Written t before after w) (read-written s c a) (job-written sheet_text a before p)

-- ---- a job written and read again

written_start : {text before after : List ℕ} {n : ℕ} → Written text before after (Ok n) → take n after ≡ text
written_start {text} {before} (put h e) =
    ap (take (length text)) e ∙ take-append_seam text (drop (length text) before)

pub job-again : (j : Job) (c : Carried) → judged j ≡ Accepted c → (before : List ℕ) {after s : List ℕ} {n : ℕ}
    → (Ok n ≡ job_writing sheet_text (judged j) before) × (after ≡ job_buffer sheet_text (judged j) before)
    → s ≡ take n after
    → (answer (reading s) ≡ record { verdict = accepted; job = recorded (carried j) })
    × SameJob j (answer (reading s)).job
job-again j c a before p same =
    let w = job-written sheet_text a before p in
    let text : _ ≡ sheet_text (carried j) = same ∙ written_start w ∙ ap sheet_text (judged-carried j c a) in
    rw text (ap answer (written_read j c a), (written_same j c a).1)
