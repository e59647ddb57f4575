-- Demand 1: every input gets an answer, a bad one its first fault and no other result, and a refused call changes no
-- byte.
use mathlib.Core.Path.{◌≡◌, refl, ap, ◌∙◌}
use mathlib.Core.Bool.{false}
use mathlib.Core.Logic.{◌⊎◌}
use mathlib.Core.List.{List}
use Prim.Native.Nat.{ℕ, ◌≤◌}
use lib.Dec.{eqb, lit≤}
use lib.IntN.{ℤ, pos, negsuc}
use borrow.Author.Tests.{ne_eqb}
use Rattle.std.specs.Prelude.{Err, IsOk}
use Rattle.std.specs.Result.{is_ok}
use Rattle.verdict.specs.declared.Verdict.{Verdict}
use Rattle.verdict.specs.Verdict.{accepted, refusal}
use Rattle.field.specs.declared.Field.{Field}
use Rattle.lines.specs.Lines.{lines_in}
use Rattle.page.specs.Writing.{writing}
use Rattle.job.specs.declared.Job.{Job}
use Rattle.job.specs.Carried.{Carried, carried, no_job}
use Rattle.job.specs.Lines.{lines_of}
use Rattle.job.specs.Walk.{Accepted, verdict, judged}
use Rattle.sheet.specs.Sheet.{reading, answer, sheet_text, job_writing}
use Rattle.worst.specs.declared.Six.{Six}
use Rattle.worst.specs.Worst.{six_extremes, reckoned, worst_of}
use Rattle.worst.specs.Stored.{reckoned_by}
use Rattle.report.specs.Report.{refused_text, report_text, stored_text, totals_text}
use Rattle.answers.specs.Answers.{no_host_text, no_host_extreme, host_text, report_line, host_line, host_total}
use Rattle.claims.specs.Contract.{Always}
use Rattle.claims.specs.Fault.{Faulty, Faultless, GetsFault, GetsAccepted}
use Rattle.claims.proofs.Contracts as of
use Rattle.claims.proofs.Fault as fault

-- ---- the statements

-- "Every input gets an answer; no entry point relies on its caller having checked anything."
-- What each contract asks of its caller is nothing (NothingAsked): whatever the arguments are, the function ends with
-- what its contract says.

-- "A bad sheet or job gets the number and line of the first fault in paper 01's order and no other result."
pub record BadGetsFirstFault : Type 0 where
  -- a sheet
  pub read-sheet : GetsFault of.read-sheet.Post (λ κ a. lines_in a.0.now)
      (λ κ a v. record { verdict = v; job = no_job })
  pub write-totals : GetsFault of.write-totals.Post (λ κ a. lines_in a.0.now)
      (λ κ a v. writing (refused_text v) a.1.0.now)
  pub aral-read : GetsFault of.aral-read.Post (λ κ a. lines_in a.0.now) (λ κ a v. v)
  pub aral-rewrite : GetsFault of.aral-rewrite.Post (λ κ a. lines_in a.0.now) (λ κ a v. no_host_text v)
  pub aral-report : GetsFault of.aral-report.Post (λ κ a. lines_in a.0.now) (λ κ a v. no_host_text v)
  pub aral-total : GetsFault of.aral-total.Post (λ κ a. lines_in a.0.now) (λ κ a v. no_host_extreme v)
  -- a job
  pub judge : GetsFault of.judge.Post (λ κ a. lines_of (carried a.0)) (λ κ a v. v)
  pub worst-cases : GetsFault of.worst-cases.Post (λ κ a. lines_of (carried a.0))
      (λ κ a v. Err v)
  pub write-sheet : GetsFault of.write-sheet.Post (λ κ a. lines_of (carried a.0)) (λ κ a v. Err v)
  pub write-report : GetsFault of.write-report.Post (λ κ a. lines_of (carried a.0)) (λ κ a v. Err v)
  pub worst-stored : GetsFault of.worst-stored.Post (λ κ a. lines_of (carried a.0))
      (λ κ a v. Err v)
  pub write-stored : GetsFault of.write-stored.Post (λ κ a. lines_of (carried a.0)) (λ κ a v. Err v)

-- Where there is no fault, it is accepted: number 0, line 0. What is then written and shown is said by demands 2 and
-- 3.
pub record GoodIsAccepted : Type 0 where
  pub read-sheet : GetsAccepted of.read-sheet.Post (λ κ a. lines_in a.0.now) (λ κ r. r.verdict ≡ accepted)
  pub aral-read : GetsAccepted of.aral-read.Post (λ κ a. lines_in a.0.now) (λ κ r. r ≡ accepted)
  pub judge : GetsAccepted of.judge.Post (λ κ a. lines_of (carried a.0)) (λ κ r. r ≡ accepted)
  pub worst-cases : GetsAccepted of.worst-cases.Post (λ κ a. lines_of (carried a.0))
      (λ κ r. IsOk r)

-- Lines of fields have no fault, or one first fault and no other.
abbrev pub FaultsAreOne : Type 0
FaultsAreOne = (xs : List (List Field)) → (Faultless xs ⊎ ((v : Verdict) × Faulty xs v))
    × ((v w : Verdict) → Faulty xs v → Faulty xs w → v ≡ w)

-- A sheet or a job is accepted, with what its lines carry, exactly where they have no fault.
pub record AcceptedIsFaultless : Type 0 where
  pub sheet : (s : List ℕ) → (Faultless (lines_in s) → (c : Carried) × (reading s ≡ Accepted c))
      × ((c : Carried) → reading s ≡ Accepted c → Faultless (lines_in s) × (lines_of c ≡ lines_in s))
  pub job : (j : Job) → (Faultless (lines_of (carried j)) → judged j ≡ Accepted (carried j))
      × ((c : Carried) → judged j ≡ Accepted c → Faultless (lines_of (carried j)) × (c ≡ carried j))

-- A line of the report other than 1 to 6 is 3 with line 0, after the sheet's own fault.
abbrev pub OtherLineIsThree : Type 0
OtherLineIsThree = Always of.aral-total.Post (λ κ a r s. Faultless (lines_in a.0.now)
    → ((n : ℕ) → 1 ≤ n → n ≤ 6 → a.1.0 ≡ pos n → ⊥) → r ≡ no_host_extreme (refusal 3 0))

-- "A refused call changes no byte of any buffer."
-- So by the contract of each function that is lent a buffer and may refuse (Unchanged).

-- ---- the proofs

pub bad-gets-first-fault : BadGetsFirstFault
unfolding worst_of
bad-gets-first-fault =
    record {
      read-sheet = λ κ a r s p v f. p ∙ ap answer (fault.sheet-faulty a.0.now f);
      write-totals = λ κ a r s p v f.
          p.0 ∙ ap (λ x. writing (totals_text x) a.1.0.now) (fault.sheet-faulty a.0.now f);
      aral-read = λ κ a r s p v f. p ∙ ap verdict (fault.sheet-faulty a.0.now f);
      aral-rewrite = λ κ a r s p v f.
          p.0 ∙ ap (λ x. host_text (job_writing sheet_text x a.1.0.now)) (fault.sheet-faulty a.0.now f);
      aral-report = λ κ a r s p v f.
          p.0 ∙ ap (λ x. host_text (job_writing report_text x a.1.0.now)) (fault.sheet-faulty a.0.now f);
      aral-total = λ κ a r s p v f. p ∙ ap (λ x. host_total x a.1.0) (fault.sheet-faulty a.0.now f);
      judge = λ κ a r s p v f. p ∙ ap verdict (fault.job-faulty a.0 f);
      worst-cases = λ κ a r s p v f. p ∙ ap reckoned (fault.job-faulty a.0 f);
      write-sheet = λ κ a r s p v f.
          p.0 ∙ ap (λ x. job_writing sheet_text x a.1.0.now) (fault.job-faulty a.0 f);
      write-report = λ κ a r s p v f.
          p.0 ∙ ap (λ x. job_writing report_text x a.1.0.now) (fault.job-faulty a.0 f);
      worst-stored = λ κ a r s p v f. p ∙ ap (reckoned_by a.1.0) (fault.job-faulty a.0 f);
      write-stored = λ κ a r s p v f.
          p.0 ∙ ap (λ x. job_writing (stored_text a.1.0) x a.1.1.0.now) (fault.job-faulty a.0 f);
    }

pub good-is-accepted : GoodIsAccepted
unfolding worst_of
good-is-accepted =
    record {
      read-sheet = λ κ a r s p f.
          ap (λ x. x.verdict) (p ∙ ap answer (fault.sheet-faultless a.0.now f).1);
      aral-read = λ κ a r s p f. p ∙ ap verdict (fault.sheet-faultless a.0.now f).1;
      judge = λ κ a r s p f. p ∙ ap verdict (fault.job-faultless a.0 f);
      worst-cases = λ κ a r s p f. ap is_ok (p ∙ ap reckoned (fault.job-faultless a.0 f));
    }

pub faults-are-one : FaultsAreOne
faults-are-one xs = (fault.faultless-or-faulty xs, λ v w f g. fault.faulty-unique xs f g)

pub accepted-is-faultless : AcceptedIsFaultless
accepted-is-faultless =
    record {
      sheet = λ s. (fault.sheet-faultless s, fault.sheet-accepted s);
      job = λ j. (fault.job-faultless j, fault.job-accepted j);
    }

no_line : (year : ℤ) (six : Six) (l : ℤ) → ((n : ℕ) → 1 ≤ n → n ≤ 6 → l ≡ pos n → ⊥)
    → host_line year six l ≡ no_host_extreme (refusal 3 0)
unfolding report_line
no_line year six (negsuc n) h = refl
no_line year six (pos n) h =
    let other : (k : ℕ) → 1 ≤ k → k ≤ 6 → eqb n k ≡ false = λ k p q. ne_eqb n k (λ e. h k p q (ap pos e)) in
    rw (other 1 (lit≤ tt) (lit≤ tt), other 2 (lit≤ tt) (lit≤ tt), other 3 (lit≤ tt) (lit≤ tt))
    (rw (other 4 (lit≤ tt) (lit≤ tt), other 5 (lit≤ tt) (lit≤ tt), other 6 (lit≤ tt) (lit≤ tt)))

pub other-line-is-three : OtherLineIsThree
other-line-is-three κ a r s p f h =
    let c = fault.sheet-faultless a.0.now f in
    p ∙ ap (λ x. host_total x a.1.0) c.1 ∙ no_line c.0.year (six_extremes c.0) a.1.0 h
