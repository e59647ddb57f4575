-- A session: edits of a worksheet one after the other, each by whatever its contract allows. Sums that are those of the
-- faces stay so, and what they show is the report.
use mathlib.Core.Path.{◌≡◌, sym, ap, ◌∙◌, subst}
use mathlib.Core.Logic.{◌⊎◌, ⊎_elim}
use mathlib.Core.List.{List}
use Prim.Native.Nat.{ℕ}
use Rattle.job.specs.Carried.{carried}
use Rattle.job.specs.Walk.{Accepted, judged}
use Rattle.job.proofs.RoundTrip.{judged-carried}
use Rattle.page.specs.Writing.{writing, buffer_after}
use Rattle.sheet.specs.Sheet.{job_writing, job_buffer}
use Rattle.worst.specs.Stored.{stored_of, six_by}
use Rattle.worst.proofs.JobSums.{own-six}
use Rattle.worst.proofs.SumsWithin.{telling-own}
use Rattle.report.specs.Lines.{six_text}
use Rattle.report.specs.Report.{report_text, stored_text}
use Rattle.edits.specs.Edits.{Edit, Add, Replace, TakeOut}
use Rattle.worksheet.specs.declared.Worksheet.{Worksheet}
use Rattle.worksheet.specs.declared.Edited.{Edited}
use Rattle.worksheet.specs.Worksheet.{edited}
use Rattle.worksheet.proofs.Stays.{edited-accepted, sums-stay}
use Rattle.claims.specs.Contract.{Call}
use Rattle.claims.specs.Sums.{TrueSums}
use Rattle.claims.proofs.Contracts as of
use Rattle.claims.proofs.Accepted.{job-in-order}

-- an edit of one of the three kinds, refused or not
abbrev pub Step : Worksheet → Worksheet → Type 0
Step w v =
    Call of.aral-add.Post (λ κ a. a.0) (λ κ r. r.worksheet) w v
    ⊎ (Call of.aral-replace.Post (λ κ a. a.0) (λ κ r. r.worksheet) w v
    ⊎ Call of.aral-take-out.Post (λ κ a. a.0) (λ κ r. r.worksheet) w v)

-- "any sequence of edits"
pub data Session : Worksheet → Worksheet → Type 0 where
  none : {w : Worksheet} → Session w w
  edits : {w u v : Worksheet} → Step w u → Session u v → Session w v

-- ---- its laws

-- a step is an edit by its contract, whatever the kind
pub by-edit : {w v : Worksheet} {P : Type 0}
    → ((e : Edit) (x : Worksheet) (r : Edited) → r ≡ edited e x → x ≡ w → r.worksheet ≡ v → P) → Step w v → P
by-edit h =
    ⊎_elim (λ (κ, x, r, s, p, q, b). h (Add x.1.0) x.0 r p q b)
    (⊎_elim (λ (κ, x, r, s, p, q, b). h (Replace x.1.0 x.1.1.0) x.0 r p q b)
    (λ (κ, x, r, s, p, q, b). h (TakeOut x.1.0) x.0 r p q b))

-- an edit leaves true sums true
edited-true : (e : Edit) (w : Worksheet) → TrueSums w → TrueSums (edited e w).worksheet
edited-true e w t =
    let k = edited-accepted e w t.carries t.accepted in
    record {
      carries = k.0;
      accepted = k.1;
      sums = sums-stay e w t.carries k.0 t.accepted t.sums k.1;
    }

step-true : {w v : Worksheet} → TrueSums w → Step w v → TrueSums v
step-true t =
    by-edit (λ e x r p q b. subst TrueSums (ap (λ k. k.worksheet) (sym p) ∙ b)
    (edited-true e x (subst TrueSums (sym q) t)))

pub stays-true : (w v : Worksheet) → TrueSums w → Session w v → TrueSums v
stays-true w v t none = t
stays-true w v t (edits {u = u} s r) = stays-true u v (step-true t s) r

-- the six lines that true sums tell are the report
pub shows-report : (w : Worksheet) → TrueSums w → (buf : List ℕ)
    → (job_writing (stored_text w.sums) (judged w.job) buf ≡ job_writing report_text (judged w.job) buf)
    × (job_buffer (stored_text w.sums) (judged w.job) buf ≡ job_buffer report_text (judged w.job) buf)
unfolding stored_text report_text
shows-report w t buf =
    let j = w.job in
    let mine = judged-carried j t.carries t.accepted in
    let is : judged j ≡ Accepted (carried j) = t.accepted ∙ ap Accepted mine in
    let o = job-in-order j (carried j) is in
    let text : stored_text w.sums (carried j) ≡ report_text (carried j) =
    ap (λ s. stored_text s (carried j)) (t.sums ∙ ap stored_of mine)
    ∙ ap (six_text (carried j).year) (ap (λ s. six_by s (carried j)) (telling-own (carried j) o) ∙ own-six j o) in
    rw is (ap (λ l. writing l buf) text, ap (λ l. buffer_after l buf) text)
