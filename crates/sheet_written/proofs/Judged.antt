-- Laws of a job that is written: refused as it is judged, and else its text is what it carries and fits a page of 8967
-- bytes.
use Prim.Native.Nat.{ℕ, ◌≤◌}
use mathlib.Core.Path.{◌≡◌, refl, sym, subst}
use mathlib.Core.Bool.{Bool, true, false}
use mathlib.Core.List.{List}
use native.Mathlib.Omega.{arith}
use lib.ListN.{length, take}
use Rattle.std.specs.Prelude.{Err}
use Rattle.verdict.specs.declared.Verdict.{Verdict}
use Rattle.verdict.specs.Verdict.{Refuses}
use Rattle.page.specs.Writing.{Writing, Put, writing, buffer_after}
use Rattle.page.proofs.Put.{emitted}
use Rattle.job.specs.declared.Job.{Job}
use Rattle.job.specs.Carried.{Carried, carried}
use Rattle.job.specs.Lines.{entries_of, lines_of}
use Rattle.job.specs.Walk.{Accepted, verdict, judged}
use Rattle.whole.specs.Lists.{Every}
use Rattle.building.specs.Year.{has_heights}
use Rattle.rules.specs.declared.Section.TheVariants.{«V», B, W, I, P, F}
use Rattle.rules.specs.Sections.{about, sections}
use Rattle.job.proofs.Sheet.{said_by, SheetInOrder, sheet-in-order, sheet-said}
use Rattle.job.proofs.Verdicts.{judged-refused, judged-accepted}
use Rattle.sheet.specs.Sheet.{sheet_text, job_writing, job_buffer}
use Rattle.sheet_written.specs.Roomed.{Roomed}
use Rattle.sheet.proofs.Part.{longest-sheet}
use Rattle.sheet.proofs.RoundTrip.{written_read}

module _ (j : Job) (v : Verdict) (e : v ≡ verdict (judged j)) where
  pub job-refused : Refuses v → (buf : List ℕ)
      → (Err v ≡ job_writing sheet_text (judged j) buf)
      × (buf ≡ job_buffer sheet_text (judged j) buf)
  job-refused h buf =
      rw (judged-refused j v e h) (refl, refl)

  module _ (z : v.number ≡ 0) where
    judged-is : judged j ≡ Accepted (carried j)
    judged-is = judged-accepted j v e z

    pub job-roomed : Roomed (carried j)
    unfolding judged lines_of
    job-roomed =
        let h = has_heights (carried j).year in
        let e = sheet-said (entries_of (carried j)) h (carried j) judged-is in
        subst (λ (c : Carried). Every (λ s. length (entries_of (carried j) s) ≤ (about s).most c.year) (sections h))
        (sym e) (go h (sheet-in-order (entries_of (carried j)) h (carried j) judged-is))
      where
        go : (h : Bool) → SheetInOrder (entries_of (carried j)) h
            → Every (λ s. length (entries_of (carried j) s) ≤ (about s).most (said_by (entries_of (carried j)) h).year)
            (sections h)
        go true o = (
          (o.counted «V» tt).high,
          (
            (o.counted B tt).high,
            (
              (o.counted W tt).high,
              ((o.counted I tt).high, ((o.counted P tt).high, ((o.counted F tt).high, tt))),
            ),
          ),
        )
        go false o =
            ((o.counted B tt).high, ((o.counted W tt).high, ((o.counted I tt).high, ((o.counted F tt).high, tt))))

    -- the text on a page that has room for the longest, put into a buffer
    module _ {l page : List ℕ} {n : ℕ} (w : Put l 0 (sheet_text (carried j)) page n) (room : length l ≡ 8967) where
      pub job-written : {o : Writing} {after : List ℕ} (buf : List ℕ)
          → (o ≡ writing (take n page) buf) × (after ≡ buffer_after (take n page) buf)
          → (o ≡ job_writing sheet_text (judged j) buf) × (after ≡ job_buffer sheet_text (judged j) buf)
      job-written buf e =
          rw judged-is
          (emitted w
          (omega (arith, longest-sheet (sheet_text (carried j)) (carried j) (written_read j (carried j) judged-is)))
          buf e)
