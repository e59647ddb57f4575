-- No answer is longer than 3084 bytes: a report is not, and a refusal has one digit for its number and few for its
-- line, which stands among the first 9021 bytes.
use Rattle.std.proofs.Common.{◌≡◌, ◌≤◌, ◌+◌, ℕ, List, [], ◌∷◌, ◌++◌, length, take, true, arith, sym, ◌∙◌, subst, refl}
use Rattle.std.specs.Prelude.{eqb, Ok, Err}
use Rattle.std.proofs.Math.Nat.{min-le_left}
use lib.Dec.{T, leb, leb→le}
use lib.ListN.{length-append, length-take}
use mathlib.Core.Bool.{Bool}
use Rattle.whole.proofs.Table.{both, both_left, both_right}
use borrow.Author.Tests.{le-leb}
use Rattle.whole.proofs.Tests.{by-test}
use Rattle.verdict.specs.declared.Verdict.{Verdict}
use Rattle.building.specs.Fault.{Fault, first}
use Rattle.field.specs.declared.Field.{Field}
use Rattle.lines.specs.Lines.{lines_in}
use Rattle.lines.proofs.Lines.{rows_none, rows-open, rows-seam}
use Rattle.rules.specs.declared.Before.{Before}
use Rattle.rules.specs.declared.Section.TheVariants.{«V», B, W, I, P, F}
use Rattle.rules.specs.declared.Kind.{Kind}
use Rattle.rules.specs.declared.Kind.TheVariants.{Count, Entry}
use Rattle.rules.specs.Form.{in_form}
use Rattle.rules.specs.Sections.{forms_by, faults_of, line_fault}
use Rattle.job.specs.Carried.{Carried, nothing, before}
use Rattle.job.specs.Walk.{Reading, Accepted, Refused, verdict, walk, calls, learn, sheet, opening, read_lines}
use Rattle.job.proofs.InOrder.{accepted-in-order}
use Rattle.sheet.specs.Sheet.{reading}
use Rattle.sheet.proofs.Part.{ByLines, none, unended, ended, by_lines, part-decides}
use Rattle.page.specs.Writing.{Writing, writing}
use Rattle.report.specs.Report.{totals_text}
use Rattle.report.proofs.Lengths.{report-most, refused-most}

-- ---- the number of a refusal

abbrev low : List Fault → Bool
low [] = true
low (f ∷ fs) = both (leb f.number 8) (low fs)

faults-low : (k : Kind) (b : Before) (fs : List Field) → T (low (faults_of k b fs))
faults-low (Count s) b fs = tt
faults-low (Entry «V») b fs = tt
faults-low (Entry B) b fs = tt
faults-low (Entry W) b fs = tt
faults-low (Entry I) b fs = tt
faults-low (Entry P) b fs = tt
faults-low (Entry F) b fs = tt

first-low : (fs : List Fault) → T (low fs) → first fs ≤ 8
first-low [] t = omega arith
first-low (f ∷ fs) t =
    by-test f.found (λ e. rw e (leb→le f.number 8 (both_left (leb f.number 8) (low fs) t)))
    (λ e. rw e (first-low fs (both_right (leb f.number 8) (low fs) t)))

fault-low : (k : Kind) (b : Before) (fs : List Field) → line_fault k b fs ≤ 8
unfolding line_fault
fault-low k b fs =
    by-test (in_form (forms_by b k) fs) (λ e. rw e (first-low (faults_of k b fs) (faults-low k b fs)))
    (λ e. rw e (omega arith))

-- ---- and its line

-- of a text with so many lines
record Told (most : ℕ) (v : Verdict) : Type 0 where
  number : v.number ≤ 8
  line : v.line ≤ most

walk-told : (ks : List Kind) (c : Carried) (n : ℕ) (xs : List (List Field))
    → Told (n + length xs) (verdict (walk ks c n xs))
unfolding walk
walk-told [] c n [] = record { number = omega arith; line = omega arith }
walk-told [] c n (x ∷ xs) = record { number = omega arith; line = omega arith }
walk-told (k ∷ ks) c n [] = record { number = omega arith; line = omega arith }
walk-told (k ∷ ks) c n (x ∷ xs) =
    by-test (eqb (line_fault k (before c) x) 0)
    (λ e.
    let t = walk-told (calls k x ++ ks) (learn k x c) (n + 1) xs in
    rw e (record { number = t.number; line = omega (arith, t.line) }))
    (λ e. rw e (record { number = fault-low k (before c) x; line = omega arith }))

-- a line has a byte at least
lines-few : {s : List ℕ} → ByLines s → length (lines_in s) ≤ length s
lines-few none = rw rows_none (omega arith)
lines-few (unended x s f) = rw (rows-open x s f) (omega arith)
lines-few (ended l t f b) = rw (rows-seam l t f) (omega (arith, length-append l (10 ∷ t), lines-few b))

reading-told : (s : List ℕ) → Told (1 + length s) (verdict (reading s))
unfolding reading read_lines
reading-told s =
    let t = walk-told (sheet (opening (lines_in s))) nothing 1 (lines_in s) in
    record { number = t.number; line = omega (arith, t.line, lines-few (by_lines s)) }

-- ---- so a whole answer

text-short : (s : List ℕ) → length s ≤ 9021 → (x : Reading) → x ≡ reading s → length (totals_text x) ≤ 3084
unfolding reading
text-short s h (Accepted c) e = report-most c (accepted-in-order (lines_in s) c (sym e))
text-short s h (Refused v) e =
    let t : Told (1 + length s) v = subst (λ (y : Reading). Told (1 + length s) (verdict y)) (sym e) (reading-told s) in
    omega (
      arith,
      refused-most v (record { fits = omega (arith, t.number) }) (record { fits = omega (arith, t.line, h) }),
    )

pub answer-short : (s : List ℕ) → length (totals_text (reading s)) ≤ 3084
answer-short s =
    let d = part-decides s 9021 (omega arith) in
    subst (λ (y : Reading). length (totals_text y) ≤ 3084) d
    (text-short (take 9021 s) (omega (arith, length-take 9021 s, min-le_left 9021 (length s)))
    (reading (take 9021 s)) refl)

-- so a buffer of that length has room
pub has-room : (s buf : List ℕ) {w : Writing} (v : Verdict) → 3084 ≤ length buf
    → w ≡ writing (totals_text (reading s)) buf → w ≡ Err v → ⊥
has-room s buf v h e r =
    let t = totals_text (reading s) in
    let room : leb (length t) (length buf) ≡ true = le-leb (length t) (length buf) (omega (arith, answer-short s, h)) in
    let told : Ok (length t) ≡ Err v = sym (rw room at e) ∙ r in
    let z : ◌≡◌ {A = ℕ} 0 1 = cc in omega arith
