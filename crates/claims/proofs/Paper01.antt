-- Sentences of paper 01 beside the three demands.
use mathlib.Core.Path.{◌≡◌, refl, sym, ap, ◌∙◌}
use mathlib.Core.Bool.{Bool, true, false, cond}
use mathlib.Core.List.{List}
use native.Mathlib.Omega.{arith}
use Prim.Native.Nat.{ℕ, ◌≤◌, ◌<◌}
use lib.IntN.{ℤ, pos, nat_abs, ◌*ℤ◌}
use lib.Dec.{leb}
use lib.ListN.{length, take}
use lib.Signed.{◌≤ℤ◌}
use Rattle.std.specs.Prelude.{Ok, Err}
use Rattle.whole.specs.Lists.{Every}
use Rattle.whole.proofs.Lists.{every-by}
use Rattle.verdict.specs.Verdict.{refusal}
use Rattle.lines.specs.Lines.{LinesInForm}
use Rattle.book.specs.Row.{hundredths, Standing}
use Rattle.book.specs.Line.{Way, Between}
use Rattle.book.specs.Interpolated.{Rising, LiesBetween, LiesAt, NearLine}
use Rattle.book.proofs.Interpolated.{interpolated-between}
use Rattle.job.proofs.Room.{limit-early, limit-roomed}
use Rattle.job.specs.declared.Job.{Job}
use Rattle.job.specs.Carried.{Carried, carried}
use Rattle.job.specs.Lines.{lines_of}
use Rattle.job.specs.InOrder.{FaceInOrder, Within}
use Rattle.job.specs.Walk.{Reading, Accepted, Refused, judged}
use Rattle.sheet.specs.Sheet.{reading, answer, sheet_text, job_writing}
use Rattle.sheet.proofs.RoundTrip.{judge-is-reader}
use Rattle.sheet.proofs.Answered.{answer-verdict}
use Rattle.sheet.proofs.Part.{part-decides, longest-sheet}
use Rattle.worst.specs.declared.Axis.{Axis}
use Rattle.worst.specs.Cases.{Case, case_total}
use Rattle.worst.specs.Forces.{loads}
use Rattle.worst.specs.Worst.{given}
use Rattle.worst.proofs.Accepted.{given-in-range}
use Rattle.worst.proofs.Ranges.{case_total-small}
use Rattle.report.specs.Report.{report_text}
use Rattle.report.proofs.Lengths.{report-most}
use Rattle.answers.specs.Answers.{host_text}
use Rattle.claims.specs.Contract.{Always}
use Rattle.claims.proofs.Contracts as of
use Rattle.claims.proofs.Accepted.{job-in-order, sheet-in-order}

-- ---- the statements

-- "It therefore lies between the neighbouring rows, ends included": once for all tables.
abbrev pub LiesBetweenRows : Type 0
LiesBetweenRows = (rows : List Standing) (col x d : ℕ) (w : Way) (v : ℤ) (lower upper : Standing)
    → Rising rows → 0 < d → LiesAt rows x d w → NearLine w col v → LiesBetween rows x d lower upper
    → Between (hundredths lower.row col *ℤ pos 10) (hundredths upper.row col *ℤ pos 10) v

-- "With these ranges no total exceeds 7.92 × 10^18 in size": so it is for the 24 faces of years 1 to 3; year 4 has ten
-- times as many.
abbrev pub TotalsAreSmall : Type 0
TotalsAreSmall = (j : Job) (c : Carried) → judged j ≡ Accepted c → (axis : Axis) (k : Case ℕ ℕ ℕ)
    → (c.year ≤ℤ pos 3 → nat_abs (case_total (loads axis (given c)) k) ≤ 7_920_000_000_000_000_000)
    × (nat_abs (case_total (loads axis (given c)) k) ≤ 79_200_000_000_000_000_000)

-- "Local coefficients .. never enter a total": every face of an accepted job is of a zone, A to H.
abbrev pub NoLocals : Type 0
NoLocals = (j : Job) (c : Carried) → judged j ≡ Accepted c → Every (λ f. Within 65 72 f.zone) c.faces

-- "Jobs given as records get the number and line that their sheet would get", wherever the entries can be written.
abbrev pub JobAsSheet : Type 0
JobAsSheet = Always of.judge.Post (λ κ a r s. Always of.read-sheet.Post (λ κ' b q t.
    LinesInForm (lines_of (carried a.0)) → b.0.now ≡ sheet_text
    (carried a.0) → r ≡ q.verdict))

-- No report is longer than 3084 bytes, and no accepted sheet than 8967.
abbrev pub TextsAreShort : Type 0
TextsAreShort = Always of.aral-report.Post (λ κ a r s. r.length ≤ 3084)
    × Always of.aral-read.Post
    (λ κ a r s. (c : Carried) → reading a.0.now ≡ Accepted c → length a.0.now ≤ 8967)

-- A program that reads the first 9021 bytes, or more, of its input answers for all of it.
abbrev pub PartAnswers : Type 0
PartAnswers = (s : List ℕ) (n : ℕ) → 9021 ≤ n → reading (take n s) ≡ reading s

-- ---- the proofs

pub lies-between-rows : LiesBetweenRows
lies-between-rows rows col x d w v lower upper rises some lies near b =
    interpolated-between rows rises x d some lower upper b col lies near

pub totals-are-small : TotalsAreSmall
totals-are-small j c a axis k =
    let small = case_total-small (given c) (given-in-range c (job-in-order j c a)) axis k in
    (λ early. omega (arith, small, limit-early c.year early), omega (arith, small, limit-roomed c.year))

pub no-locals : NoLocals
no-locals j c a = every-by (λ f (h : FaceInOrder c.building f). h.zone) c.faces (job-in-order j c a).faces

pub job-as-sheet : JobAsSheet
job-as-sheet κ a r s p κ' b q t p' f same =
    let x = judged a.0 in
    let e : q ≡ answer x = p' ∙ ap (λ s. answer (reading s)) same ∙ ap answer (judge-is-reader a.0 f) in
    p ∙ sym (ap (λ v. v.verdict) e ∙ answer-verdict x)

-- the length that a host gets for a report
answered-length : (x : Reading) (buf : List ℕ) → ((c : Carried) → x ≡ Accepted c → length (report_text c) ≤ 3084)
    → (host_text (job_writing report_text x buf)).length ≤ 3084
answered-length (Accepted c) buf h = go (leb (length (report_text c)) (length buf))
  where
    go : (t : Bool)
        → (host_text (cond t (Ok (length (report_text c))) (Err (refusal 7 0)))).length ≤ 3084
    go true = h c refl
    go false = omega arith
answered-length (Refused v) buf h = omega arith

pub texts-are-short : TextsAreShort
texts-are-short = (
  λ κ a r s p. rw p.0
      (answered-length (reading a.0.now) a.1.0.now (λ c e. report-most c (sheet-in-order a.0.now c e))),
  λ κ a r s p c e. longest-sheet a.0.now c e,
)

pub part-answers : PartAnswers
part-answers = part-decides
