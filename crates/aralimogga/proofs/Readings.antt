-- What comes of a sheet that was read: its refusal, or an answer about the job that it carries. `text` is any text
-- about a job.
use Prim.Native.Nat.{ℕ}
use mathlib.Core.Path.{◌≡◌, refl, sym, ap, ◌∙◌}
use mathlib.Core.List.{List}
use lib.IntN.{ℤ}
use Rattle.verdict.specs.declared.Verdict.{Verdict}
use Rattle.verdict.specs.Verdict.{Refuses}
use Rattle.page.specs.Writing.{Writing}
use Rattle.job.specs.Carried.{Carried}
use Rattle.job.specs.Walk.{Reading, Refused, judged}
use Rattle.sheet.specs.declared.read.Read.{Read}
use Rattle.sheet.specs.Sheet.{reading, answer, job_writing, job_buffer}
use Rattle.sheet.proofs.Answered.{read-refused, read-accepted}
use Rattle.account.specs.Account.{no_account, account_of}
use Rattle.answers.specs.declared.Text.{Text}
use Rattle.answers.specs.Answers.{no_host_text, host_text}

-- ---- a text about the job

module _ (s : List ℕ) (r : Read) (e : r ≡ answer (reading s)) where
  -- by what is made of what was read, where a refusal stays as it is
  module _ (made : Reading → Reading) (own : (v : Verdict) → made (Refused v) ≡ Refused v) (text : Carried → List ℕ)
      (buf : List ℕ) where
    pub text-refused : Refuses r.verdict
        → (no_host_text r.verdict ≡ host_text (job_writing text (made (reading s)) buf))
        × (buf ≡ job_buffer text (made (reading s)) buf)
    text-refused h = rw (ap made (read-refused s r e h) ∙ own r.verdict) (refl, refl)

    pub text-accepted : r.verdict.number ≡ 0 → {t : Text} {w : Writing} {after : List ℕ} → t ≡ host_text w
        → (w ≡ job_writing text (made (judged r.job)) buf) × (after ≡ job_buffer text (made (judged r.job)) buf)
        → (t ≡ host_text (job_writing text (made (reading s)) buf)) × (after ≡ job_buffer text (made (reading s)) buf)
    text-accepted z given wrote =
        let a = read-accepted s r e z in
        let j = ap made (a.2 ∙ sym a.1) in (
          given ∙ ap host_text (wrote.0 ∙ ap (λ (x : Reading). job_writing text x buf) j),
          wrote.1 ∙ ap (λ (x : Reading). job_buffer text x buf) j,
        )

-- ---- a face in the case of one

module _ (s : List ℕ) (r : Read) (e : r ≡ answer (reading s)) (line face : ℤ) where
  pub account-refused : Refuses r.verdict → no_account r.verdict ≡ account_of (reading s) line face
  unfolding account_of
  account-refused h = sym (ap (λ (x : Reading). account_of x line face) (read-refused s r e h))

  pub account-accepted : r.verdict.number ≡ 0
      → account_of (judged r.job) line face ≡ account_of (reading s) line face
  account-accepted z =
      let a = read-accepted s r e z in
      ap (λ (x : Reading). account_of x line face) (a.2 ∙ sym a.1)
