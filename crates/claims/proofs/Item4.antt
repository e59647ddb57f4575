-- Item 4 of paper 02: faces edited on screen.
use mathlib.Core.Path.{◌≡◌, refl, sym, ap, ap₂, ◌∙◌, subst}
use mathlib.Core.List.{List}
use Prim.Native.Nat.{ℕ, ◌+◌, ◌≤◌, ◌<◌}
use native.Mathlib.Omega.{arith}
use lib.IntN.{pos, nat_abs}
use lib.ListN.{length, take, drop}
use lib.Seq.{take-append_seam}
use Rattle.std.specs.Prelude.{Ok}
use Rattle.verdict.specs.declared.Verdict.{Verdict}
use Rattle.verdict.specs.Verdict.{accepted, refusal, Refuses}
use Rattle.job.specs.declared.Job.{Job}
use Rattle.job.specs.Carried.{Carried, carried}
use Rattle.job.specs.Lines.{lines_of, face_line}
use Rattle.job.specs.Walk.{Accepted, Refused, judged}
use Rattle.page.specs.Writing.{Writing}
use Rattle.job.proofs.RoundTrip.{judged-carried}
use Rattle.sheet.proofs.RoundTrip.{written_read}
use Rattle.sheet.specs.Sheet.{reading, sheet_text, job_writing, job_buffer}
use Rattle.report.specs.Report.{report_text}
use Rattle.answers.specs.declared.Text.{Text}
use Rattle.answers.specs.Answers.{host_text}
use Rattle.building.specs.Year.{face_limit}
use Rattle.building.proofs.Accepted as range
use Rattle.building.proofs.Ranges.{is_within}
use Rattle.edits.specs.Edits.{Edit, Add, Replace, TakeOut, edit_faces, job_with}
use Rattle.edits.proofs.NewFace.{add-refused, replace-refused}
use Rattle.worksheet.specs.declared.Worksheet.{Worksheet}
use Rattle.worksheet.specs.declared.Edited.{Edited}
use Rattle.worksheet.specs.Worksheet.{edited}
use Rattle.worksheet.proofs.Stays.{edited-accepted, refused-stays}
use Rattle.claims.specs.Contract.{Always}
use Rattle.claims.specs.Fault.{Faultless}
use Rattle.claims.specs.Edit.{There, face_fault, EditFault, new-face}
use Rattle.claims.specs.Written.{Written, put, longer}
use Rattle.claims.specs.Sums.{TrueSums}
use Rattle.claims.proofs.Contracts as of
use Rattle.claims.proofs.Accepted.{job-in-order}
use Rattle.claims.proofs.Fault as fault
use Rattle.claims.proofs.Edit as edit
use Rattle.claims.proofs.Session.{Step, Session, none, edits, by-edit, stays-true, shows-report}
use Rattle.claims.proofs.Again as again

-- ---- the statements

-- "After any sequence of edits from an accepted job, the report equals that of the sheet written afresh": the six lines
-- shown are those of the sheet that is written, read and reported, in the answer and in a buffer alike. From item 7 on
-- a worksheet stores sums, and this is said of one whose sums are its faces', as every sheet that is opened has
abbrev pub ReportsAfresh : Type 0
ReportsAfresh = (w v : Worksheet) → TrueSums w → Session w v
    → Always of.aral-write.Post (λ κ a r s. Always of.aral-show.Post (λ κ' b q t.
    Always of.aral-report.Post (λ κ'' d p u. (n : ℕ) → a.0 ≡ v → b.0 ≡ v
    → r ≡ host_text (Ok n) → d.0.now ≡ take n s.1.0.now → b.1.0.now ≡ d.1.0.now
    → (q ≡ p) × (t.1.0.now ≡ u.1.0.now))))

-- the job that is held stays an accepted one
abbrev pub StaysAccepted : Type 0
StaysAccepted = (w v : Worksheet) (c : Carried) → judged w.job ≡ Accepted c → Session w v
    → (d : Carried) × (judged v.job ≡ Accepted d)

-- "A refused edit leaves the worksheet the same."
pub record RefusedIsSame : Type 0 where
  pub add : Always of.aral-add.Post (λ κ a r s. Refuses r.verdict → r.worksheet ≡ a.0)
  pub replace : Always of.aral-replace.Post (λ κ a r s. Refuses r.verdict → r.worksheet ≡ a.0)
  pub take_out : Always of.aral-take-out.Post (λ κ a r s. Refuses r.verdict → r.worksheet ≡ a.0)

-- "Refusals: the held job's own as in 01; then .. 9; then .. 2; .. then the new face's own faults": an edit gets the
-- first of them, and where there is none it is accepted
abbrev pub FirstOfFaults : Job → Edit → Verdict → Type 0
FirstOfFaults j e v = ((u : Verdict) → EditFault j e u → v ≡ u) × (((u : Verdict) → EditFault j e u → ⊥) → v ≡ accepted)

pub record EditsGetFirstFault : Type 0 where
  pub add : Always of.aral-add.Post (λ κ a r s. FirstOfFaults a.0.job (Add a.1.0) r.verdict)
  pub replace : Always of.aral-replace.Post
      (λ κ a r s. FirstOfFaults a.0.job (Replace a.1.0 a.1.1.0) r.verdict)
  pub take_out : Always of.aral-take-out.Post (λ κ a r s. FirstOfFaults a.0.job (TakeOut a.1.0) r.verdict)

-- "as in 01, with the line it would have in the sheet": where a new face is at fault, the sheet with it in its place
-- would be refused with the same number and line
pub record NewFaceAsInSheet : Type 0 where
  pub add : Always of.aral-add.Post (λ κ a r s. let j = a.0.job in
      Faultless (lines_of (carried j)) → j.faces.count < face_limit j.year → (face_fault j a.1.0 ≡ 0 → ⊥)
      → judged (job_with (edit_faces (Add a.1.0) j) j) ≡ Refused r.verdict)
  pub replace : Always of.aral-replace.Post (λ κ a r s. let j = a.0.job in
      Faultless (lines_of (carried j)) → There j a.1.0 → (face_fault j a.1.1.0 ≡ 0 → ⊥)
      → judged (job_with (edit_faces (Replace a.1.0 a.1.1.0) j) j) ≡ Refused r.verdict)

-- ---- the proofs

-- whatever is stored, the job stays an accepted one
step_stays : {u v : Worksheet} {r : Edited} (e : Edit) (w : Worksheet) (c : Carried) → judged u.job ≡ Accepted c
    → r ≡ edited e w → w ≡ u → r.worksheet ≡ v → (d : Carried) × (judged v.job ≡ Accepted d)
step_stays {v = v} e w c a p q s =
    let k = edited-accepted e w c (ap (λ x. judged x.job) q ∙ a) in
    (k.0, ap (λ x. judged x.job) (sym s ∙ ap (λ x. x.worksheet) p) ∙ k.1)

one-step : (w v : Worksheet) (c : Carried) → judged w.job ≡ Accepted c → Step w v
    → (d : Carried) × (judged v.job ≡ Accepted d)
one-step w v c a = by-edit (λ e x r p q b. step_stays e x c a p q b)

pub stays-accepted : StaysAccepted
stays-accepted w v c a none = (c, a)
stays-accepted w v c a (edits {u = u} s t) = let k = one-step w u c a s in stays-accepted u v k.0 k.1 t

-- a text that was written with room stands at the start
at-start : {text before after : List ℕ} {w : Writing} {n : ℕ} → Written text before after w
    → host_text w ≡ host_text (Ok n) → take n after ≡ text
at-start {text} {before} (put h e) q =
    ap₂ take (sym (ap (λ x. x.length) q)) e ∙ take-append_seam text (drop (length text) before)
at-start (longer h e) q = let seven : ◌≡◌ {A = ℕ} 7 0 = ap (λ x. x.verdict.number) q in absurd (omega arith)

-- what was written, read again
read-afresh : (v : Worksheet) (d : Carried) → judged v.job ≡ Accepted d
    → (buf : List ℕ) {after s : List ℕ} {r : Text} {n : ℕ} → r ≡ host_text (job_writing sheet_text (judged v.job) buf)
    → after ≡ job_buffer sheet_text (judged v.job) buf → r ≡ host_text (Ok n) → s ≡ take n after
    → reading s ≡ judged v.job
read-afresh v d a buf p q e same =
    let start = at-start (again.job-written sheet_text a buf (refl, q)) (sym p ∙ e) in
    let mine = judged-carried v.job d a in
    ap reading (same ∙ start ∙ ap sheet_text mine) ∙ written_read v.job d a ∙ ap Accepted (sym mine) ∙ sym a

pub reports-afresh : ReportsAfresh
reports-afresh w v true session κ x r s p κ' b q t p' κ'' d y u p'' n same same' length-is text buffer =
    let k = stays-true w v true session in
    let shows = shows-report b.0 (subst TrueSums (sym same') k) b.1.0.now in
    let j = ap (λ (z : Worksheet). judged z.job) same in
    let j' = ap (λ (z : Worksheet). judged z.job) same' in
    let out = x.1.0.now in
    let again =
    read-afresh v k.carries k.accepted out (p.0 ∙ ap (λ z. host_text (job_writing sheet_text z out)) j)
    (p.1 ∙ ap (λ z. job_buffer sheet_text z out) j) length-is text in
    let one = j' ∙ sym again in (
      p'.0 ∙ ap host_text shows.0 ∙ (λ i. host_text (job_writing report_text (one i) (buffer i))) ∙ sym p''.0,
      p'.1 ∙ shows.1 ∙ (λ i. job_buffer report_text (one i) (buffer i)) ∙ sym p''.1,
    )

-- the verdict that a contract's edit gives
first_of : (e : Edit) (w : Worksheet) {r : Edited} → r ≡ edited e w → FirstOfFaults w.job e r.verdict
unfolding edited
first_of e w p =
    let v = ap (λ x. x.verdict) p in
    (λ u f. v ∙ edit.fault-is w.job e f, λ h. v ∙ edit.none_is w.job e h)

pub edits-get-first-fault : EditsGetFirstFault
edits-get-first-fault =
    record {
      add = λ κ a r s p. first_of (Add a.1.0) a.0 p;
      replace = λ κ a r s p. first_of (Replace a.1.0 a.1.1.0) a.0 p;
      take_out = λ κ a r s p. first_of (TakeOut a.1.0) a.0 p;
    }

refused-by : (e : Edit) (w : Worksheet) {r : Edited} → r ≡ edited e w → Refuses r.verdict → r.worksheet ≡ w
refused-by e w p h =
    ap (λ x. x.worksheet) p ∙ refused-stays e w (λ z. h (ap (λ x. x.verdict.number) p ∙ z))

pub refused-is-same : RefusedIsSame
refused-is-same =
    record {
      add = λ κ a r s p h. refused-by (Add a.1.0) a.0 p h;
      replace = λ κ a r s p h. refused-by (Replace a.1.0 a.1.1.0) a.0 p h;
      take_out = λ κ a r s p h. refused-by (TakeOut a.1.0) a.0 p h;
    }

-- the verdict of an edit whose new face is at fault
new-verdict : (e : Edit) (w : Worksheet) {r : Edited} {v : Verdict} → r ≡ edited e w → EditFault w.job e v
    → r.verdict ≡ v
new-verdict e w p f = (first_of e w p).0 _ f

-- what a job carries is of its year
carried-room : (j : Job) → j.faces.count < face_limit j.year → j.faces.count < face_limit (carried j).year
unfolding carried
carried-room j room = room

pub new-face-as-in-sheet : NewFaceAsInSheet
new-face-as-in-sheet =
    record {
      add = λ κ a r s p g room z.
          let j = a.0.job in
          let f = a.1.0 in
          let k = j.faces.count + 1 in
          let o = job-in-order j (carried j) (fault.job-faultless j g) in
          let free : face_limit j.year ≤ j.faces.count → ⊥ = λ x. absurd (omega arith) in
          let at : EditFault j (Add f) (refusal (face_fault j f) (face_line (carried j) k)) =
          new-face k (face_fault j f) g (λ x. x) free (refl, refl) (omega arith) in
          add-refused j o f (carried-room j room) z ∙ ap Refused (sym (new-verdict (Add f) a.0 p at));
      replace = λ κ a r s p g there z.
          let j = a.0.job in
          let i = a.1.0 in
          let f = a.1.1.0 in
          let o = job-in-order j (carried j) (fault.job-faultless j g) in
          let n = j.faces.count in
          let w = range.within 1 n i (is_within (pos 1) (pos n) i there.0 there.1) in
          let at : EditFault j (Replace i f) (refusal (face_fault j f) (face_line (carried j) (nat_abs i))) =
          new-face (nat_abs i) (face_fault j f) g (λ n. n there) (λ x. x) (w.plain, refl) (omega arith) in
          replace-refused j o i f w z ∙ ap Refused (sym (new-verdict (Replace i f) a.0 p at));
    }
