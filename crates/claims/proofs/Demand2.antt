-- Demand 2: coefficients, net coefficients and totals are those of the tables and the sum over faces; and reading and
-- writing undo each other.
use mathlib.Core.Path.{◌≡◌, refl, sym, ap, ◌∙◌}
use mathlib.Core.List.{List}
use Prim.Native.Nat.{ℕ}
use lib.IntN.{ℤ}
use lib.ListN.{take}
use Rattle.std.specs.Prelude.{Ok}
use Rattle.verdict.specs.Verdict.{accepted}
use Rattle.page.specs.Writing.{Writing, writing}
use Rattle.whole.specs.Digits.{decimal}
use Rattle.building.specs.declared.Building.{Building}
use Rattle.book.specs.Answer as book
use Rattle.book.specs.Question.{outside_of, net_of}
use Rattle.job.specs.declared.Job.{Job}
use Rattle.entry.specs.declared.Wind.{Wind}
use Rattle.job.specs.Carried.{Carried, carried, recorded, SameJob}
use Rattle.job.specs.Walk.{Accepted, judged}
use Rattle.sheet.specs.Sheet.{reading, answer, sheet_text, job_writing}
use Rattle.worst.specs.declared.Axis.{Axis}
use Rattle.worst.specs.Cases.{Permitted, Case, case_total}
use Rattle.worst.specs.Forces.{wind_at, internal_at, loads}
use Rattle.worst.specs.Worst.{given}
use Rattle.answers.specs.Answers.{host_coefficient, host_text}
use Rattle.claims.specs.Contract.{Always}
use Rattle.claims.specs.Question.{Judged, Outside, Net, year_in, building_in, direction_in, place_in, rest_in}
use Rattle.claims.specs.Total.{Total}
use Rattle.claims.specs.Decimal.{IsDecimal}
use Rattle.claims.specs.Written.{Written}
use Rattle.claims.proofs.Contracts as of
use Rattle.claims.proofs.Accepted.{job-in-order}
use Rattle.claims.proofs.Written.{text-written, written-unique}
use Rattle.claims.proofs.Decimal.{decimal-is, decimal-unique}
use Rattle.claims.proofs.Again as again
use Rattle.claims.proofs.Question as question
use Rattle.claims.proofs.Total as total

-- ---- the statements

-- "Coefficients, net coefficients .. are those of the ROM's tables .. under paper 01's rounding."
pub record AnswersAreTheBooks : Type 0 where
  pub asked : Always of.asked.Post (λ κ a r s. Judged a.0.year a.0.building a.1.0 a.1.1.0 r)
  pub outside : Always of.outside.Post (λ κ a r s. Outside a.0.year a.0.building a.1.0 a.1.1.0 r)
  pub net : Always of.net.Post (λ κ a r s. Net a.0.year a.0.building a.1.0 a.1.1.0 a.1.1.1.0 r)
  pub aral-outside : Always of.aral-outside.Post (λ κ a r s. (q : book.Answer)
      × Outside (year_in a) (building_in a) (direction_in a) (place_in a) q × (r ≡ host_coefficient q))
  pub aral-net : Always of.aral-net.Post (λ κ a r s. (q : book.Answer)
      × Net (year_in a) (building_in a) (direction_in a) (place_in a) (rest_in a).0 q × (r ≡ host_coefficient q))

-- What a question gets leaves no choice.
abbrev pub AnswersAreOne : Type 0
AnswersAreOne = (year : ℤ) (g : Building) (direction : ℤ) (place : ℕ) (internal : ℤ) (r r' : book.Answer)
    → (Outside year g direction place r → Outside year g direction place r' → r ≡ r')
    × (Net year g direction place internal r → Net year g direction place internal r' → r ≡ r')

-- "totals are those of .. its sum over faces": of each permitted case, and of nothing else
abbrev pub TotalsAreSums : Type 0
TotalsAreSums = (j : Job) (c : Carried) → judged j ≡ Accepted c → (axis : Axis) (k : Case ℕ ℕ ℕ)
    → Permitted (loads axis (given c)) k
    → Total c axis (wind_at (given c) k.wind) (internal_at (given c) k.internal) c.faces k.chosen
    (case_total (loads axis (given c)) k)

abbrev pub TotalsAreOne : Type 0
TotalsAreOne = (c : Carried) (axis : Axis) (w : Wind) (internal : ℤ) (ks : List ℕ) (u v : ℤ)
    → Total c axis w internal c.faces ks u → Total c axis w internal c.faces ks v → u ≡ v

-- "An accepted sheet read and written again is the same bytes": the record that was read, written, is the sheet
-- itself written.
abbrev pub SheetAgain : Type 0
SheetAgain = Always of.read-sheet.Post (λ κ a r s. Always of.write-sheet.Post (λ κ' b q t.
    (c : Carried) → reading a.0.now ≡ Accepted c → b.0 ≡ r.job
    → Written a.0.now b.1.0.now t.1.0.now q))

abbrev pub SheetRewritten : Type 0
SheetRewritten = Always of.aral-rewrite.Post (λ κ a r s. (c : Carried) → reading a.0.now ≡ Accepted c
    → (w : Writing) × Written a.0.now a.1.0.now s.1.0.now w × (r ≡ host_text w))

-- "an accepted job written and read again is the same job": what was written, read, is the same job, with zeros after
-- each count.
abbrev pub JobAgain : Type 0
JobAgain = Always of.write-sheet.Post (λ κ a r s. Always of.read-sheet.Post (λ κ' b q t.
    (c : Carried) (n : ℕ) → judged a.0 ≡ Accepted c → r ≡ Ok n → b.0.now ≡ take n s.1.0.now
    → (q ≡ record { verdict = accepted; job = recorded (carried a.0) }) × SameJob a.0 q.job))

-- What is written is the text: a program that writes nothing, or something else, falls.
pub record WritesTheText : Type 0 where
  pub write-sheet : Always of.write-sheet.Post (λ κ a r s. (c : Carried) → judged a.0 ≡ Accepted c
      → Written (sheet_text c) a.1.0.now s.1.0.now r)
  pub write-decimal : Always of.write-decimal.Post (λ κ a r s. (text : List ℕ) × IsDecimal a.0 text
      × Written text a.1.0.now s.1.0.now r)
  pub aral-digits : Always of.aral-digits.Post (λ κ a r s. (text : List ℕ) × IsDecimal a.0 text
      × (w : Writing) × Written text a.1.0.now s.1.0.now w × (r ≡ host_text w))

-- A number is written in one way, and what comes of writing a text into a buffer is one thing.
abbrev pub WritingIsOne : Type 0
WritingIsOne = ((z : ℤ) (t u : List ℕ) → IsDecimal z t → IsDecimal z u → t ≡ u)
    × ((text before after after' : List ℕ) (w w' : Writing) → Written text before after w
    → Written text before after' w' → (w ≡ w') × (after ≡ after'))

-- ---- the proofs

pub answers-are-the-books : AnswersAreTheBooks
answers-are-the-books =
    record {
      asked = λ κ a r s p. rw p (question.question-judged a.0.year a.0.building a.1.0 a.1.1.0);
      outside = λ κ a r s p.
          rw p (question.outside-got a.0.year a.0.building a.1.0 a.1.1.0);
      net = λ κ a r s p.
          rw p (question.net-got a.0.year a.0.building a.1.0 a.1.1.0 a.1.1.1.0);
      aral-outside = λ κ a r s p.
          let y = year_in a in
          let g = building_in a in
          let d = direction_in a in
          let l = place_in a in
          (outside_of y g d l, question.outside-got y g d l, p);
      aral-net = λ κ a r s p.
          let y = year_in a in
          let g = building_in a in
          let d = direction_in a in
          let l = place_in a in
          let i = (rest_in a).0 in
          (net_of y g d l i, question.net-got y g d l i, p);
    }

pub answers-are-one : AnswersAreOne
answers-are-one year g direction place internal r r' =
    (question.outside-unique year g direction place, question.net-unique year g direction place internal)

pub totals-are-sums : TotalsAreSums
totals-are-sums j c a axis k h = total.case-total c (job-in-order j c a) axis k h

pub totals-are-one : TotalsAreOne
totals-are-one c axis w internal ks u v = total.total-unique c axis w internal

pub sheet-again : SheetAgain
sheet-again κ a r s p κ' b q t p' c e same =
    let j : b.0 ≡ (answer (reading a.0.now)).job = same ∙ ap (λ x. x.job) p in
    again.sheet-again a.0.now c e b.1.0.now (rw j at p')

pub sheet-rewritten : SheetRewritten
sheet-rewritten κ a r s p c e =
    let out = a.1.0.now in
    (job_writing sheet_text (reading a.0.now) out, again.rewritten a.0.now c e out (refl, p.1), p.0)

pub job-again : JobAgain
job-again κ a r s p κ' b q t p' c n e length-is same =
    rw p' (again.job-again a.0 c e a.1.0.now (sym length-is ∙ p.0, p.1) same)

pub writes-the-text : WritesTheText
writes-the-text =
    record {
      write-sheet = λ κ a r s p c e. again.job-written sheet_text e a.1.0.now p;
      write-decimal = λ κ a r s p.
          (decimal a.0, decimal-is a.0, text-written (decimal a.0) a.1.0.now p);
      aral-digits = λ κ a r s p.
          let text = decimal a.0 in
          let out = a.1.0.now in
          (text, decimal-is a.0, writing text out, text-written text out (refl, p.1), p.0);
    }

pub writing-is-one : WritingIsOne
writing-is-one =
    (λ z t u. decimal-unique, λ text before after after' w w'. written-unique text before)
