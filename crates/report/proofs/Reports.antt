-- The line that refuses, and a report by what was judged.
use mathlib.Core.Path.{◌≡◌, refl, sym, ap, subst, ◌∙◌}
use mathlib.Core.List.{List, [], ◌∷◌, ◌++◌, append_assoc}
use Prim.Native.Nat.{ℕ, ◌<◌}
use native.Mathlib.Omega.{arith}
use lib.Dec.{leb}
use Rattle.std.specs.Prelude.{Result, Ok, Err, IfOk, IfErr, IsErrAnd}
use Rattle.std.proofs.lemmas.Result.{IfOk-at_ok, IfErr-at_err}
use Rattle.whole.proofs.Tests.{by-test}
use Rattle.page.specs.Writing.{Writing, writing, buffer_after}
use Rattle.verdict.specs.declared.Verdict.{Verdict}
use Rattle.building.proofs.Judged.{passed_on}
use Rattle.verdict.specs.Verdict.{refusal}
use Rattle.job.specs.declared.Job.{Job}
use Rattle.lines.specs.Lines.{lines_in}
use Rattle.job.specs.Carried.{Carried, carried, nothing}
use Rattle.job.specs.FirstFault.{Answers, in_order, faulty}
use Rattle.job.proofs.FirstFault.{lines-answer}
use Rattle.job.specs.InOrder.{InOrder}
use Rattle.job.specs.Walk.{Reading, Accepted, Refused, judged, opening, sheet}
use Rattle.sheet.specs.Sheet.{reading, job_writing, job_buffer}
use Rattle.sheet.proofs.FacesBack.{reading-in-order}
use Rattle.worst.specs.declared.Reckoning.{Reckoning}
use Rattle.worst.specs.Worst.{given}
use Rattle.plain.specs.Plain.{faces_with_two, plainly}
use Rattle.worst.proofs.Reckoned.{Judged, refused, accepted, job-judged}
use Rattle.report.specs.Lines.{spaced, six_text}
use Rattle.report.specs.Report.{refused_text}
use Rattle.report.specs.Short.{SixPrintable}
use Rattle.report.specs.Report as report
use Rattle.report.proofs.Lines.{spaced-append}

pub refused-parts : (v : Verdict)
    → refused_text v ≡ ((report.refused ++ spaced (v.number ∷ [])) ++ spaced (v.line ∷ [])) ++ (10 ∷ [])
unfolding refused_text
refused-parts v = rw (spaced-append (v.number ∷ []) (v.line ∷ [])) (simp append_assoc)

-- ---- a job that is judged

-- a refusal with a number above 0, or what is in order
pub data Sound : Reading → Type 0 where
  refuses : (v : Verdict) → 0 < v.number → Sound (Refused v)
  accepts : (c : Carried) → InOrder c → Sound (Accepted c)

pub judged-sound : (j : Job) → Sound (judged j)
judged-sound j = go (judged j) (job-judged j)
  where
    go : (x : Reading) → Judged j x → Sound x
    go x (refused v some) = refuses v some
    go x (accepted o) = accepts (carried j) o

pub reading-sound : (s : List ℕ) → Sound (reading s)
unfolding reading
reading-sound s = go (reading s) refl (lines-answer (lines_in s))
  where
    go : (r : Reading) → reading s ≡ r → Answers (sheet (opening (lines_in s))) nothing (lines_in s) 1 r → Sound r
    go r e (in_order d h) = accepts d (reading-in-order s d e)
    go r e (faulty n i f) = refuses _ f.some

pub plain-sound : (j : Job) → Sound (plainly (judged j))
plain-sound j = go (judged j) (judged-sound j)
  where
    go : (x : Reading) → Sound x → Sound (plainly x)
    go x (refuses v some) = refuses v some
    go x (accepts c o) =
        by-test (leb (faces_with_two (given c)) 8) (λ t. rw t (accepts c o))
        (λ t. rw t (refuses (refusal 10 0) (omega arith)))

-- ---- what was reckoned of it

-- what is reckoned goes by what is read: a refusal is its own, and the six lines are the text of what it carries
pub record Reckons (reckon : Reading → Result Reckoning Verdict) (text : Carried → List ℕ) : Type 0 where
  pub shown : Carried → Reckoning
  pub own : (v : Verdict) → reckon (Refused v) ≡ Err v
  pub fine : (c : Carried) → reckon (Accepted c) ≡ Ok (shown c)
  pub lines : (c : Carried) → six_text (shown c).year (shown c).six ≡ text c

-- what is written of it: the six lines, or the refusal alone
abbrev pub six_writing : Result Reckoning Verdict → List ℕ → Writing
six_writing (Ok w) buf = writing (six_text w.year w.six) buf
six_writing (Err v) buf = Err v

abbrev pub six_buffer : Result Reckoning Verdict → List ℕ → List ℕ
six_buffer (Ok w) buf = buffer_after (six_text w.year w.six) buf
six_buffer (Err v) buf = buf

pub six-written : {reckon : Reading → Result Reckoning Verdict} {text : Carried → List ℕ} → Reckons reckon text
    → (x : Reading) → Sound x → (buf : List ℕ)
    → (six_writing (reckon x) buf ≡ job_writing text x buf) × (six_buffer (reckon x) buf ≡ job_buffer text x buf)
six-written how x (refuses v some) buf =
    (ap (λ r. six_writing r buf) (how.own v), ap (λ r. six_buffer r buf) (how.own v))
six-written how x (accepts c o) buf = (
  ap (λ r. six_writing r buf) (how.fine c) ∙ ap (λ t. writing t buf) (how.lines c),
  ap (λ r. six_buffer r buf) (how.fine c) ∙ ap (λ t. buffer_after t buf) (how.lines c),
)

module _ {reckon : Reading → Result Reckoning Verdict} {text : Carried → List ℕ} (how : Reckons reckon text)
    {x : Reading} (sound : Sound x) {r : Result Reckoning Verdict} (e : r ≡ reckon x) where
  -- what holds of the six of all that is in order holds of what was reckoned
  pub six-holds : (P : Reckoning → Type 0) → ((c : Carried) → InOrder c → x ≡ Accepted c → P (how.shown c))
      → IfOk (reckon x) P
  six-holds P h = go x sound h
    where
      go : (y : Reading) → Sound y → ((c : Carried) → InOrder c → y ≡ Accepted c → P (how.shown c)) → IfOk (reckon y) P
      go y (refuses v some) k = subst (λ (q : Result Reckoning Verdict). IfOk q P) (sym (how.own v)) tt
      go y (accepts c o) k = subst (λ (q : Result Reckoning Verdict). IfOk q P) (sym (how.fine c)) (k c o refl)

  refused-holds : IfErr (reckon x) (λ v. x ≡ Refused v)
  refused-holds = go x sound
    where
      go : (y : Reading) → Sound y → IfErr (reckon y) (λ v. y ≡ Refused v)
      go y (refuses v some) =
          subst (λ (q : Result Reckoning Verdict). IfErr q (λ u. Refused v ≡ Refused u)) (sym (how.own v)) refl
      go y (accepts c o) =
          subst (λ (q : Result Reckoning Verdict). IfErr q (λ u. Accepted c ≡ Refused u)) (sym (how.fine c)) tt

  -- six lines can be printed, and are its text
  pub prints : ((c : Carried) → InOrder c → SixPrintable (how.shown c)) → {w : Reckoning} → r ≡ Ok w → SixPrintable w
  prints printable is = IfOk-at_ok SixPrintable (sym e ∙ is) (six-holds SixPrintable (λ c o k. printable c o))

  pub wrote : {w : Reckoning} → r ≡ Ok w → (buf : List ℕ) {o : Writing} {after : List ℕ}
      → (o ≡ writing (six_text w.year w.six) buf) × (after ≡ buffer_after (six_text w.year w.six) buf)
      → (o ≡ job_writing text x buf) × (after ≡ job_buffer text x buf)
  wrote is buf done =
      let told = six-written how x sound buf in (
        done.0 ∙ ap (λ r. six_writing r buf) (sym is ∙ e) ∙ told.0,
        done.1 ∙ ap (λ r. six_buffer r buf) (sym is ∙ e) ∙ told.1,
      )

  -- a refusal is the reading's own
  pub refuses-as : {v : Verdict} → r ≡ Err v → x ≡ Refused v
  refuses-as is = IfErr-at_err (λ v. x ≡ Refused v) (sym e ∙ is) refused-holds

  pub unwritten : {v : Verdict} → r ≡ Err v → (buf : List ℕ) {o : Writing} → IsErrAnd o (λ w. w ≡ v)
      → (o ≡ job_writing text x buf) × (buf ≡ job_buffer text x buf)
  unwritten is buf {o} handed =
      let told = six-written how x sound buf in (
        passed_on o handed ∙ ap (λ r. six_writing r buf) (sym is ∙ e) ∙ told.0,
        ap (λ r. six_buffer r buf) (sym is ∙ e) ∙ told.1,
      )

  -- and what is accepted is what it carries
  pub accepts-as : {w : Reckoning} → r ≡ Ok w → (c : Carried) × (x ≡ Accepted c)
  accepts-as is =
      IfOk-at_ok (λ (w : Reckoning). (c : Carried) × (x ≡ Accepted c)) (sym e ∙ is)
      (six-holds (λ (w : Reckoning). (c : Carried) × (x ≡ Accepted c)) (λ c o k. (c, k)))
