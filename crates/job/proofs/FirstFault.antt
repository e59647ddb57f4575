-- What `walk` answers is the first fault, and no other answer is.
use Prim.Native.Nat.{ℕ, zero, suc, ◌+◌, ◌≤◌, ◌<◌}
use mathlib.Core.Path.{◌≡◌, refl, sym, subst}
use mathlib.Core.List.{List, [], ◌∷◌, ◌++◌}
use native.Mathlib.Omega.{arith}
use lib.Dec.{eqb, leb}
use borrow.Author.Tests.{eqb-true, eqb-false, leb-true, leb-false}
use Rattle.whole.proofs.Tests.{by-test}
use Rattle.verdict.specs.Verdict.{refusal}
use Rattle.field.specs.declared.Field.{Field}
use Rattle.rules.specs.declared.Kind.{Kind}
use Rattle.job.specs.declared.Job.{Job}
use Rattle.job.specs.Carried.{Carried, nothing, before, carried}
use Rattle.job.specs.Lines.{lines_of}
use Rattle.rules.specs.Sections.{line_fault}
use Rattle.job.specs.Walk.{calls, learn, Reading, Refused, verdict, walk, opening, sheet, read_lines, judged}
use Rattle.job.specs.FirstFault.{HasFault, FaultAt, FirstFault, NoFault, Answers, in_order, faulty}
use Rattle.job.proofs.Lowest.{fault-lowest, fault-has}

none_left : (c : Carried) (i m : ℕ) → FaultAt i m [] c [] → ⊥
none_left c zero m f = f
none_left c (suc i) m f = f

-- a line in order, and the rest
module _ (k : Kind) (ks : List Kind) (c : Carried) (line : ℕ) (x : List Field) (xs : List (List Field))
    (z : line_fault k (before c) x ≡ 0) where
  none_here : (m : ℕ) → 0 < m → HasFault m (before c) x k → ⊥
  none_here m h f = omega (arith, (fault-lowest k (before c) x f).0)

  later : (r : Reading) → Answers (calls k x ++ ks) (learn k x c) xs (line + 1) r → Answers (k ∷ ks) c (x ∷ xs) line r
  later r (in_order d none) = in_order d go
    where
      go : NoFault (k ∷ ks) c (x ∷ xs)
      go zero m h f = none_here m h f
      go (suc i) m h f = none i m h f
  later r (faulty n i first) =
      subst (λ (l : ℕ). Answers (k ∷ ks) c (x ∷ xs) line (Refused (refusal n l))) (omega arith)
      (faulty n (suc i) (record { some = first.some; has = first.has; lowest = first.lowest; first = go }))
    where
      go : (h m : ℕ) → h < suc i → 0 < m → FaultAt h m (k ∷ ks) c (x ∷ xs) → ⊥
      go zero m h y f = none_here m y f
      go (suc j) m h y f = first.first j m (omega arith) y f

-- the fault is in the first line
at_once : (ks : List Kind) (c : Carried) (line : ℕ) (xs : List (List Field)) (n : ℕ) → 0 < n → FaultAt 0 n ks c xs
    → ((m : ℕ) → 0 < m → m < n → FaultAt 0 m ks c xs → ⊥) → Answers ks c xs line (Refused (refusal n line))
at_once ks c line xs n p f low =
    subst (λ (l : ℕ). Answers ks c xs line (Refused (refusal n l))) (omega arith)
    (faulty n 0 (record { some = p; has = f; lowest = low; first = λ h m y w g. omega arith }))

pub walk-answers : (ks : List Kind) (c : Carried) (line : ℕ) (xs : List (List Field))
    → Answers ks c xs line (walk ks c line xs)
unfolding walk
walk-answers [] c line [] = in_order c (λ i m z f. none_left c i m f)
walk-answers [] c line (x ∷ xs) = at_once [] c line (x ∷ xs) 1 (omega arith) refl (λ m z h f. omega arith)
walk-answers (k ∷ ks) c line [] = at_once (k ∷ ks) c line [] 1 (omega arith) refl (λ m z h f. omega arith)
walk-answers (k ∷ ks) c line (x ∷ xs) =
    let n = line_fault k (before c) x in
    by-test (eqb n 0)
    (λ e.
    rw e
    (later k ks c line x xs (eqb-true n 0 e)
    (walk (calls k x ++ ks) (learn k x c) (line + 1) xs)
    (walk-answers (calls k x ++ ks) (learn k x c) (line + 1) xs)))
    (λ e.
    let p : 0 < n = omega (arith, eqb-false n 0 e) in
    rw e (at_once (k ∷ ks) c line (x ∷ xs) n p (fault-has k (before c) x p)
    (λ m y h f. omega (arith, (fault-lowest k (before c) x f).1))))

-- the answer to lines is their first fault
pub lines-answer : (xs : List (List Field)) → Answers (sheet (opening xs)) nothing xs 1 (read_lines xs)
unfolding read_lines
lines-answer xs = walk-answers (sheet (opening xs)) nothing 1 xs

-- and so for a record, whose lines are those of its sheet
pub record-answers : (j : Job) → let xs = lines_of (carried j) in Answers (sheet (opening xs)) nothing xs 1 (judged j)
unfolding judged
record-answers j = lines-answer (lines_of (carried j))

-- ---- no two answers

module _ (ks : List Kind) (c : Carried) (xs : List (List Field)) where
  first-before : {n i m h : ℕ} → FirstFault ks c xs n i → FirstFault ks c xs m h → i ≤ h → (i ≡ h) × (n ≤ m)
  first-before {n} {i} {m} {h} a b l =
      by-test (eqb i h)
      (λ e.
      let q = eqb-true i h e in
      by-test (leb n m) (λ w. (q, leb-true n m w))
      (λ w.
      absurd (a.lowest m b.some (leb-false n m w) (subst (λ (y : ℕ). FaultAt y m ks c xs) (sym q) b.has))))
      (λ e. absurd (b.first i n (omega (arith, eqb-false i h e)) a.some a.has))

  first-ordered : {n i m h : ℕ} → FirstFault ks c xs n i → FirstFault ks c xs m h → i ≤ h → (i ≡ h) × (n ≡ m)
  first-ordered a b l =
      let t = first-before a b l in
      let u = first-before b a (omega (arith, t.0)) in
      (t.0, omega (arith, t.1, u.1))

  pub first-unique : {n i m h : ℕ} → FirstFault ks c xs n i → FirstFault ks c xs m h → (i ≡ h) × (n ≡ m)
  first-unique {n} {i} {m} {h} a b =
      by-test (leb i h) (λ e. first-ordered a b (leb-true i h e))
      (λ e. let t = first-ordered b a (omega (arith, leb-false i h e)) in (sym t.0, sym t.1))

  pub answers-unique : (line : ℕ) (r s : Reading) → Answers ks c xs line r → Answers ks c xs line s
      → verdict r ≡ verdict s
  answers-unique line r s (in_order d none) (in_order e none') = refl
  answers-unique line r s (in_order d none) (faulty n i a) = absurd (none i n a.some a.has)
  answers-unique line r s (faulty n i a) (in_order d none) = absurd (none i n a.some a.has)
  answers-unique line r s (faulty n i a) (faulty m h b) = let t = first-unique a b in rw (t.0, t.1)
