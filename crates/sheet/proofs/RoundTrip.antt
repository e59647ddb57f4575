-- Reading and writing undo each other, and the judge of records is the reader of their texts.
use mathlib.Core.Path.{◌≡◌, refl, ap, ◌∙◌, sym}
use mathlib.Core.List.{List}
use Prim.Native.Nat.{ℕ, ◌≤◌}
use lib.ListN.{length, take, drop}
use lib.Seq.{take-append_seam}
use borrow.Author.Tests.{le-leb}
use Rattle.lines.specs.Lines.{text_of_lines, LinesInForm, lines_in}
use Rattle.page.specs.Writing.{writing, buffer_after}
use Rattle.lines.proofs.Round.{text-rows, rows-text}
use Rattle.job.specs.declared.Job.{Job}
use Rattle.job.specs.Carried.{Carried, nothing, carried, recorded, SameJob}
use Rattle.job.specs.Lines.{lines_of}
use Rattle.job.specs.FirstFault.{Answers}
use Rattle.job.specs.Walk.{Reading, Accepted, opening, sheet, read_lines, judged}
use Rattle.job.proofs.FirstFault.{lines-answer}
use Rattle.job.proofs.InForm.{accepted-in-form, accepted-not-bad}
use Rattle.job.proofs.RoundTrip.{accepted-lines, judged-carried}
use Rattle.job.proofs.Records.{recorded-accepted, same-recorded}
use Rattle.sheet.specs.Sheet.{reading, answer, sheet_text, job_writing, job_buffer}

-- what a text says is the first faulty line, and in it the lowest number
pub reading-answers : (s : List ℕ) → Answers (sheet (opening (lines_in s))) nothing (lines_in s) 1 (reading s)
unfolding reading
reading-answers s = lines-answer (lines_in s)

-- an accepted sheet, read and written again, is the same bytes
pub read-written : (s : List ℕ) (c : Carried) → reading s ≡ Accepted c → sheet_text c ≡ s
unfolding reading sheet_text
read-written s c a = ap text_of_lines (accepted-lines (lines_in s) c a)
    ∙ rows-text s (accepted-not-bad (lines_in s) c a)

-- so with the record that was read and a lent buffer: what comes of writing it is what comes of writing the text
pub read-rewritten : (s : List ℕ) (c : Carried) → reading s ≡ Accepted c → (buf : List ℕ)
    → (job_writing sheet_text (judged (answer (reading s)).job) buf ≡ writing s buf)
    × (job_buffer sheet_text (judged (answer (reading s)).job) buf ≡ buffer_after s buf)
unfolding reading
read-rewritten s c a buf = rw (a, recorded-accepted (lines_in s) c a, read-written s c a) (refl, refl)

-- where every entry of a record can be written, the record gets what its sheet gets
pub judge-is-reader : (j : Job) → LinesInForm (lines_of (carried j)) → reading (sheet_text (carried j)) ≡ judged j
unfolding reading sheet_text judged
judge-is-reader j f = ap read_lines (text-rows (lines_of (carried j)) f)

module _ (j : Job) (c : Carried) (a : judged j ≡ Accepted c) where
  -- an accepted job, written and read again, is what it carries
  pub written_read : reading (sheet_text (carried j)) ≡ Accepted (carried j)
  unfolding judged
  written_read =
      judge-is-reader j (accepted-in-form (lines_of (carried j)) c a) ∙ a ∙ ap Accepted (judged-carried j c a)

  -- so it is the same job, in a record with zeros after each count
  pub written_same : ((answer (reading (sheet_text (carried j)))).job ≡ recorded (carried j)) × SameJob j
      (answer (reading (sheet_text (carried j)))).job
  written_same =
      let e = ap (λ (r : Reading). (answer r).job) written_read in
      let s = same-recorded j c a in
      (e, s.0 ∙ ap carried (s.1 ∙ sym e))

  -- and so it is read from a buffer that had room for it
  pub written-reread : (buf : List ℕ) → length (sheet_text (carried j)) ≤ length buf
      → reading (take (length (sheet_text (carried j))) (job_buffer sheet_text (judged j) buf)) ≡ Accepted (carried j)
  written-reread buf h =
      let t = sheet_text (carried j) in
      let q : judged j ≡ Accepted (carried j) = a ∙ ap Accepted (judged-carried j c a) in
      rw (q, le-leb (length t) (length buf) h, take-append_seam t (drop (length t) buf)) written_read
