-- An accepted sheet has at most 8967 bytes, and a part of a text that holds as much and a longest line in form decides
-- the answer for the whole.
use Prim.Native.Nat.{ℕ, zero, suc, ◌+◌, ◌-◌, ◌≤◌, ◌<◌}
use mathlib.Core.Path.{◌≡◌, refl, ap, ◌∙◌, sym}
use mathlib.Core.Bool.{Bool, false}
use mathlib.Core.List.{List, [], ◌∷◌, ◌++◌}
use native.Mathlib.Omega.{arith}
use lib.Dec.{ltb, eqb}
use lib.ListN.{length, take, length-append}
use lib.Seq.{take-append-le, take-append-add, take-nil}
use borrow.Author.Tests.{eqb-true, eqb-false, ltb-true, ltb-false}
use Rattle.whole.proofs.Tests.{by-test}
use Rattle.verdict.specs.declared.Verdict.{Verdict}
use Rattle.verdict.specs.Verdict.{refusal}
use Rattle.field.specs.declared.Field.{Field}
use Rattle.field.specs.declared.Field.TheVariants.{Bad}
use Rattle.lines.specs.Lines.{lines_in, fields_of}
use Rattle.lines.specs.Held.{until}
use Rattle.lines.proofs.Lines.{Free, rows-open, rows-seam}
use Rattle.rules.specs.declared.Before.{Before}
use Rattle.rules.specs.declared.Kind.{Kind}
use Rattle.job.specs.Carried.{Carried, nothing, before}
use Rattle.rules.specs.Sections.{line_fault}
use Rattle.job.specs.Walk.{calls, learn, Accepted, Refused, walk, opening, sheet, read_lines}
use Rattle.job.proofs.Walk.{walk-on, walk_refused, accepted-line, accepted-no-more}
use Rattle.sheet.specs.Sheet.{reading}
use Rattle.sheet.proofs.OutOfForm.{line-long, bad-first}
use Rattle.sheet.proofs.Longest.{longest, longest-sheet-is, longest-on, in-order-short}

-- ---- a text by its lines

-- nothing, something with no LF, or a line with its LF and a text behind it
pub data ByLines : List ℕ → Type 0 where
  none : ByLines []
  unended : (x : ℕ) (s : List ℕ) → Free 10 (x ∷ s) → ByLines (x ∷ s)
  ended : (l t : List ℕ) → Free 10 l → ByLines t → ByLines (l ++ (10 ∷ t))

longer : (x : ℕ) {s : List ℕ} → eqb x 10 ≡ false → ByLines s → ByLines (x ∷ s)
unfolding until
longer x e none = unended x [] (rw e)
longer x e (unended y s f) = unended x (y ∷ s) (rw e (ap suc f))
longer x e (ended l t f b) = ended (x ∷ l) t (rw e (ap suc f)) b

pub by_lines : (s : List ℕ) → ByLines s
unfolding until
by_lines [] = none
by_lines (x ∷ s) =
    by-test (eqb x 10) (λ e. rw (eqb-true x 10 e) (ended [] s refl (by_lines s))) (λ e. longer x e (by_lines s))

-- a first line that no kind takes
pub no_line : (ks : List Kind) (c : Carried) (n : ℕ) (x : List Field) (xs : List (List Field))
    → ((k : Kind) (b : Before) → line_fault k b x ≡ 1) → walk ks c n (x ∷ xs) ≡ Refused (refusal 1 n)
unfolding walk
no_line [] c n x xs h = refl
no_line (k ∷ ks) c n x xs h = rw (h k (before c))

-- ---- what is accepted is short

accepted-no : (c : Carried) (v : Verdict) → Refused v ≡ Accepted c → ⊥
accepted-no c v e = let z : ◌≡◌ {A = ℕ} 0 1 = cc in omega arith

walk-short : {s : List ℕ} → ByLines s → (ks : List Kind) (c e : Carried) (n : ℕ)
    → walk ks c n (lines_in s) ≡ Accepted e
    → length s ≤ longest ks
walk-short none ks c e n a = omega arith
walk-short (unended x s f) ks c e n a =
    absurd
    (accepted-no e _ (sym (no_line ks c n (Bad ∷ []) [] bad-first) ∙ sym (ap (walk ks c n) (rows-open x s f)) ∙ a))
walk-short (ended l t f b) [] c e n a =
    absurd (accepted-no-more c e n (fields_of l) (lines_in t) (rw (rows-seam l t f) at a))
walk-short (ended l t f b) (k ∷ ks) c e n a =
    let q : walk (k ∷ ks) c n (fields_of l ∷ lines_in t) ≡ Accepted e = rw (rows-seam l t f) at a in
    let z = accepted-line k ks c n (fields_of l) (lines_in t) q in
    let r =
    walk-short b (calls k (fields_of l) ++ ks) (learn k (fields_of l) c) e (n + 1)
    (sym (walk-on k ks c n (fields_of l) (lines_in t) z) ∙ q) in
    omega (
      arith,
      length-append l (10 ∷ t),
      in-order-short k (before c) l z,
      longest-on k ks (before c)
          (fields_of l) z,
    )

-- no accepted sheet is longer
pub longest-sheet : (s : List ℕ) (c : Carried) → reading s ≡ Accepted c → length s ≤ 8967
unfolding reading read_lines
longest-sheet s c a =
    let h = opening (lines_in s) in
    omega (arith, walk-short (by_lines s) (sheet h) nothing c 1 a, longest-sheet-is h)

-- ---- a part decides

free-take : (n : ℕ) (s : List ℕ) → Free 10 s → Free 10 (take n s)
unfolding until
free-take zero s f = refl
free-take (suc n) [] f = refl
free-take (suc n) (x ∷ s) f =
    by-test (eqb x 10) (λ e. absurd (let q : 0 ≡ suc (length s) = rw e at f in omega arith))
    (λ e. let q : suc (until 10 s) ≡ suc (length s) = rw e at f in rw e (ap suc (free-take n s (omega arith))))

-- a part of a text with no LF in it, if not empty
rows-part : (n : ℕ) (s : List ℕ) → 0 < n → 0 < length s → Free 10 s → lines_in (take n s) ≡ (Bad ∷ []) ∷ []
rows-part zero s h k f = absurd (omega arith)
rows-part (suc n) [] h k f = absurd (omega arith)
rows-part (suc n) (x ∷ s) h k f = rows-open x (take n s) (free-take (suc n) (x ∷ s) f)

-- the first line ends in the part
take-line : (n : ℕ) (l t : List ℕ) → length l < n → take n (l ++ (10 ∷ t)) ≡ l ++ (10 ∷ take (n - suc (length l)) t)
take-line n l t h =
    let q : n ≡ length l + suc (n - suc (length l)) = omega arith in
    ap (λ (i : ℕ). take i (l ++ (10 ∷ t))) q ∙ take-append-add l (10 ∷ t) (suc (n - suc (length l)))

-- lines that begin alike
walk-alike : (k : Kind) (ks : List Kind) (c : Carried) (n : ℕ) (x : List Field) (xs ys : List (List Field))
    → (line_fault k (before c) x ≡ 0
    → walk (calls k x ++ ks) (learn k x c) (n + 1) xs ≡ walk (calls k x ++ ks) (learn k x c) (n + 1) ys)
    → walk (k ∷ ks) c n (x ∷ xs) ≡ walk (k ∷ ks) c n (x ∷ ys)
walk-alike k ks c n x xs ys h =
    by-test (eqb (line_fault k (before c) x) 0)
    (λ e.
    let z = eqb-true (line_fault k (before c) x) 0 e in
    walk-on k ks c n x xs z ∙ h z ∙ sym (walk-on k ks c n x ys z))
    (λ e.
    let z = eqb-false (line_fault k (before c) x) 0 e in
    walk_refused k ks c n x xs z ∙ sym (walk_refused k ks c n x ys z))

-- the first line ends in the part, or it is longer than any line in form
first-line : (l t : List ℕ) → Free 10 l → (ks : List Kind) (c : Carried) (n m : ℕ) → 54 ≤ m
    → (length l < m
    → walk ks c n (fields_of l ∷ lines_in (take (m - suc (length l)) t)) ≡ walk ks c n (fields_of l ∷ lines_in t))
    → walk ks c n (lines_in (take m (l ++ (10 ∷ t)))) ≡ walk ks c n (lines_in (l ++ (10 ∷ t)))
first-line l t f ks c n m h on =
    by-test (ltb (length l) m)
    (λ e.
    let k : length l < m = ltb-true (length l) m e in
    rw (take-line m l t k, rows-seam l (take (m - suc (length l)) t) f, rows-seam l t f) (on k))
    (λ e.
    let k : m ≤ length l = ltb-false (length l) m e in
    rw (take-append-le m l (10 ∷ t) k, rows-part m l (omega arith) (omega arith) f, rows-seam l t f)
    (no_line ks c n (Bad ∷ []) [] bad-first ∙ sym
    (no_line ks c n (fields_of l) (lines_in t) (λ i b. line-long i b l (omega arith)))))

walk-part : {s : List ℕ} → ByLines s → (ks : List Kind) (c : Carried) (n m : ℕ) → longest ks + 54 ≤ m
    → walk ks c n (lines_in (take m s)) ≡ walk ks c n (lines_in s)
unfolding walk
walk-part none ks c n m h = rw take-nil
walk-part (unended x s f) ks c n m h = rw (rows-part m (x ∷ s) (omega arith) (omega arith) f, rows-open x s f)
walk-part (ended l t f b) [] c n m h = first-line l t f [] c n m (omega arith) (λ i. refl)
walk-part (ended l t f b) (k ∷ ks) c n m h =
    first-line l t f (k ∷ ks) c n m (omega arith)
    (λ i. walk-alike k ks c n (fields_of l) (lines_in (take (m - suc (length l)) t)) (lines_in t)
    (λ z. walk-part b (calls k (fields_of l) ++ ks) (learn k (fields_of l) c) (n + 1) (m - suc (length l))
    (omega (arith, in-order-short k (before c) l z, longest-on k ks (before c) (fields_of l) z))))

-- so for a whole sheet: its first line opens the part as well, or no sheet has that line
sheet-part : {s : List ℕ} → ByLines s → (m : ℕ) → 9021 ≤ m → read_lines (lines_in (take m s)) ≡ read_lines (lines_in s)
unfolding read_lines
sheet-part none m h = rw take-nil
sheet-part (unended x s f) m h = rw (rows-part m (x ∷ s) (omega arith) (omega arith) f, rows-open x s f)
sheet-part (ended l t f b) m h =
    let whole = l ++ (10 ∷ t) in
    let part = take m whole in
    by-test (ltb (length l) m)
    (λ e.
    let k = opening (lines_in whole) in
    let alike : opening (lines_in part) ≡ k =
    rw (take-line m l t (ltb-true (length l) m e), rows-seam l (take (m - suc (length l)) t) f, rows-seam l t f) in
    ap (λ (y : Bool). walk (sheet y) nothing 1 (lines_in part)) alike
    ∙ walk-part (ended l t f b) (sheet k) nothing 1 m (omega (arith, longest-sheet-is k)))
    (λ e.
    let k : m ≤ length l = ltb-false (length l) m e in
    rw (take-append-le m l (10 ∷ t) k, rows-part m l (omega arith) (omega arith) f, rows-seam l t f)
    (no_line (sheet false) nothing 1 (Bad ∷ []) [] bad-first ∙ sym
    (no_line (sheet (opening (fields_of l ∷ lines_in t))) nothing 1 (fields_of l) (lines_in t)
    (λ i b. line-long i b l (omega arith)))))

-- the first 9021 bytes, 8967 and 54 more, decide
pub part-decides : (s : List ℕ) (n : ℕ) → 9021 ≤ n → reading (take n s) ≡ reading s
unfolding reading
part-decides s n h = sheet-part (by_lines s) n h
