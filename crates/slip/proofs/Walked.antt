-- What is called for behind lines in order: line by line, what comes of the rest is what comes of the whole text.
use Prim.Native.Nat.{ℕ, zero, suc, ◌+◌, ◌-◌, ◌≤◌, ◌<◌}
use mathlib.Core.Path.{◌≡◌, refl, sym, ap, ◌∙◌}
use mathlib.Core.Bool.{Bool, false}
use mathlib.Core.List.{List, [], ◌∷◌, ◌++◌, map}
use native.Mathlib.Omega.{arith}
use lib.Dec.{eqb, ltb}
use lib.ListN.{length, drop, drop_of_length-le}
use lib.Seq.{drop-cons}
use borrow.Author.Tests.{eqb-true, eqb-false, ltb-true, ltb-false}
use Rattle.whole.proofs.Tests.{by-test}
use Rattle.field.specs.declared.Field.{Field}
use Rattle.lines.specs.declared.Line.{Line}
use Rattle.lines.specs.Lines.{lines_in}
use Rattle.lines.specs.Held.{held, line_at}
use Rattle.lines.proofs.Held.{At, taken, gone, unended, long, at-is}
use Rattle.entry.specs.Says.{size, at}
use Rattle.rules.specs.declared.Before.{Before}
use Rattle.rules.specs.declared.Section.{Section}
use Rattle.rules.specs.declared.Section.TheVariants.{«V»}
use Rattle.rules.specs.declared.Kind.{Kind}
use Rattle.rules.specs.declared.Kind.TheVariants.{Count, Entry}
use Rattle.rules.specs.Sections.{sections, section_at, line_fault}
use Rattle.job.specs.Carried.{Carried, nothing, before}
use Rattle.job.specs.Walk.{entries, calls, learn, Reading, verdict, walk, opening, read_lines}
use Rattle.job.proofs.Walk.{walk-on, walk_refused}
use Rattle.sheet.specs.Sheet.{reading}
use Rattle.sheet.proofs.OutOfForm.{bad-first, many-held}
use Rattle.std.specs.Prelude.{Option}
use Rattle.slip.specs.Slip.{called, read_with, behind, reached_in}

-- ---- a line before the one that is refused

-- it is there, it was called for, and it is in order
pub data InOrder (ks : List Kind) (c : Carried) (xs : List (List Field)) : Type 0 where
  one : (k : Kind) (later : List Kind) (x : List Field) (rest : List (List Field)) → ks ≡ k ∷ later → xs ≡ x ∷ rest
      → line_fault k (before c) x ≡ 0 → InOrder ks c xs

ends_at : {y z : Reading} (line : ℕ) → y ≡ z → (verdict y).line ≤ line → line < (verdict z).line → ⊥
ends_at line e h k = let q = ap (λ (r : Reading). (verdict r).line) e in omega (arith, q)

pub before-refused : (ks : List Kind) (c : Carried) (line : ℕ) (xs : List (List Field)) {z : Reading}
    → walk ks c line xs ≡ z → line < (verdict z).line → InOrder ks c xs
unfolding walk
before-refused [] c line [] e h = absurd (ends_at line e (omega arith) h)
before-refused [] c line (x ∷ xs) e h = absurd (ends_at line e (omega arith) h)
before-refused (k ∷ ks) c line [] e h = absurd (ends_at line e (omega arith) h)
before-refused (k ∷ ks) c line (x ∷ xs) e h =
    by-test (eqb (line_fault k (before c) x) 0) (λ t. one k ks x xs refl refl (eqb-true _ _ t))
    (λ t. absurd (ends_at line (sym (walk_refused k ks c line x xs (eqb-false _ _ t)) ∙ e) (omega arith) h))

abbrev first_line : List (List Field) → List Field
first_line [] = []
first_line (z ∷ zs) = z

-- it is the line that is held at its place
pub in-order-held : (s : List ℕ) (next : ℕ) (x : Line) → x ≡ line_at s next → (k : Kind) (b : Before) (y : List Field)
    (ys : List (List Field)) → lines_in (drop next s) ≡ y ∷ ys → line_fault k b y ≡ 0
    → (lines_in (drop next s) ≡ held x ∷ lines_in (drop x.next s)) × (line_fault k b (held x) ≡ 0)
in-order-held s next x hx k b y ys e f = go (at-is s next x hx)
  where
    first-is : {z : List Field} {zs : List (List Field)} → lines_in (drop next s) ≡ z ∷ zs → y ≡ z
    first-is g = ap first_line (sym e ∙ g)

    go : At s next x → (lines_in (drop next s) ≡ held x ∷ lines_in (drop x.next s)) × (line_fault k b (held x) ≡ 0)
    go (taken g) = (g, ap (line_fault k b) (sym (first-is g)) ∙ f)
    go (gone z g) = absurd (let q = ap length (sym e ∙ g) in omega (arith, q))
    go (unended z g) = absurd (let q = ap (line_fault k b) (first-is g) in omega (arith, q, f, bad-first k b))
    go (long fs rest z g m) =
        absurd (let q = ap (line_fault k b) (first-is g) in omega (arith, q, f, many-held k b fs m))

-- ---- so far

abbrev pub calls_for : Bool → Section → ℕ → ℕ → List Kind
calls_for h sec left begun = entries sec left ++ map Count (drop begun (sections h))

-- behind the first i of n lines; with what is judged by, and whether a step of the profile was read
pub record Reaches (s : List ℕ) (n : ℕ) (h : Bool) (i : ℕ) (sec : Section) (left begun read : ℕ) (b : Before)
    (risen : Bool) (next : ℕ) : Type 0 where
  pub carries : Carried
  pub judges : b ≡ before carries
  pub rises : risen ≡ ltb 0 (length carries.profile)
  pub rest : walk (calls_for h sec left begun) carries (i + 1) (lines_in (drop next s)) ≡ reading s
  pub ends : behind (n - i) (calls_for h sec left begun) carries read (lines_in (drop next s)) ≡ reached_in n s
  pub few : begun ≤ i
  pub fewer : read ≤ i

pub reaches-start : (s : List ℕ) (n : ℕ) (h : Bool) (b : Before) → h ≡ opening (lines_in s) → b ≡ before nothing
    → Reaches s n h 0 «V» 0 0 0 b false 0
unfolding reading read_lines
reaches-start s n h b e f =
    let z : n - 0 ≡ n = omega arith in
    record {
      carries = nothing;
      judges = f;
      rises = refl;
      rest = rw e;
      ends = rw (z, e);
      few = omega arith;
      fewer = omega arith;
    }

-- ---- one line more

module _ (s : List ℕ) (n i : ℕ) (refused : (verdict (reading s)).line ≡ suc n) (more : i < n) (next : ℕ) {x : Line}
    (hx : x ≡ line_at s next) where
  left_is : n - i ≡ suc (n - (i + 1))
  left_is = omega arith

  module _ (k : Kind) (ks : List Kind) (c : Carried) (read : ℕ)
      (rest : walk (k ∷ ks) c (i + 1) (lines_in (drop next s)) ≡ reading s)
      (ends : behind (n - i) (k ∷ ks) c read (lines_in (drop next s)) ≡ reached_in n s) where
    abbrev head_of : List Kind → Kind
    head_of [] = k
    head_of (j ∷ js) = j

    taken-line : (lines_in (drop next s) ≡ held x ∷ lines_in (drop x.next s)) × (line_fault k (before c) (held x) ≡ 0)
    taken-line = go (before-refused (k ∷ ks) c (i + 1) (lines_in (drop next s)) rest (omega (arith, refused)))
      where
        go : InOrder (k ∷ ks) c (lines_in (drop next s))
            → (lines_in (drop next s) ≡ held x ∷ lines_in (drop x.next s)) × (line_fault k (before c) (held x) ≡ 0)
        go (one j later y ys p e f) =
            in-order-held s next x hx k (before c) y ys e
            (ap (λ (l : List Kind). line_fault (head_of l) (before c) y) p ∙ f)

    pub walk-next : walk (calls k (held x) ++ ks) (learn k (held x) c) (i + 1 + 1) (lines_in (drop x.next s))
        ≡ reading s
    walk-next =
        let t = taken-line in
        sym (walk-on k ks c (i + 1) (held x) (lines_in (drop x.next s)) t.1)
        ∙ ap (walk (k ∷ ks) c (i + 1)) (sym t.0)
        ∙ rest

    pub behind-next : behind (n - (i + 1)) (calls k (held x) ++ ks) (learn k (held x) c) (read_with k read)
        (lines_in (drop x.next s)) ≡ reached_in n s
    unfolding behind
    behind-next = rw (left_is, taken-line.0) at ends

  -- a section is left to be begun
  some-begun : {h : Bool} {sec : Section} {left begun read : ℕ} {b : Before} {risen : Bool}
      → Reaches s n h i sec left begun read b risen next → left ≡ 0 → begun < length (sections h)
  some-begun {h} {sec} {left} {begun} r z =
      by-test (ltb begun (length (sections h))) (λ t. ltb-true _ _ t)
      (λ t. absurd (none (drop_of_length-le (sections h) {i = begun} (ltb-false _ _ t))))
    where
      none : drop begun (sections h) ≡ [] → ⊥
      none e =
          go (before-refused (calls_for h sec left begun) r.carries (i + 1) (lines_in (drop next s)) r.rest
          (omega (arith, refused)))
        where
          go : InOrder (calls_for h sec left begun) r.carries (lines_in (drop next s)) → ⊥
          go (one j later y ys p g f) =
              let q : calls_for h sec left begun ≡ [] = rw (z, e) in
              let m = ap length (sym q ∙ p) in
              omega (arith, m)

  -- the count of the next section
  pub reaches-count : {h : Bool} {sec : Section} {left begun read : ℕ} {b : Before} {risen : Bool}
      → Reaches s n h i sec left begun read b risen next → left ≡ 0 → {t : Section} → t ≡ section_at h begun
      → {m : ℕ} → m ≡ size (at (held x) 1)
      → Reaches s n h (i + 1) t m (begun + 1) 0 b risen x.next
  reaches-count {h} {sec} {left} {begun} {read} r z {t} et {m} em =
      let ks = map Count (drop (suc begun) (sections h)) in
      let e : calls_for h sec left begun ≡ Count (section_at h begun) ∷ ks =
      rw (z, drop-cons (sections h) begun «V» (some-begun r z)) in
      let w : walk (Count (section_at h begun) ∷ ks) r.carries (i + 1) (lines_in (drop next s)) ≡ reading s =
      rw e at r.rest in
      let v : behind (n - i) (Count (section_at h begun) ∷ ks) r.carries read (lines_in (drop next s))
      ≡ reached_in n s =
      rw e at r.ends in
      let q : begun + 1 ≡ suc begun = omega arith in
      record {
        carries = r.carries;
        judges = r.judges;
        rises = r.rises;
        rest = rw (et, em, q) (walk-next (Count (section_at h begun)) ks r.carries read w v);
        ends = rw (et, em, q) (behind-next (Count (section_at h begun)) ks r.carries read w v);
        few = omega (arith, r.few);
        fewer = omega arith;
      }

  -- an entry
  pub reaches-entry : {h : Bool} {sec : Section} {left begun read : ℕ} {b d : Before} {risen rising : Bool}
      → (r : Reaches s n h i sec left begun read b risen next) → (left ≡ 0 → ⊥)
      → d ≡ before (learn (Entry sec) (held x) r.carries)
      → rising ≡ ltb 0 (length (learn (Entry sec) (held x) r.carries).profile)
      → Reaches s n h (i + 1) sec (left - 1) begun (read + 1) d rising x.next
  reaches-entry {left = zero} r z ed er = absurd (z refl)
  reaches-entry {h} {sec} {left = suc m} {begun} {read} r z ed er =
      let ks = entries sec m ++ map Count (drop begun (sections h)) in
      let q : suc m - 1 ≡ m = omega arith in
      record {
        carries = learn (Entry sec) (held x) r.carries;
        judges = ed;
        rises = er;
        rest = rw q (walk-next (Entry sec) ks r.carries read r.rest r.ends);
        ends = rw q (behind-next (Entry sec) ks r.carries read r.rest r.ends);
        few = omega (arith, r.few);
        fewer = omega (arith, r.fewer);
      }

-- behind all of them
pub reaches_end : {s : List ℕ} {n : ℕ} {h : Bool} {i : ℕ} {sec : Section} {left begun read : ℕ} {b : Before}
    {risen : Bool} {next : ℕ} → Reaches s n h i sec left begun read b risen next → n ≤ i → {k : Option Kind}
    → k ≡ called (calls_for h sec left begun) → record { called = k; before = b; read = read } ≡ reached_in n s
unfolding behind
reaches_end {n = n} {i = i} {read = read} r z e =
    let q : n - i ≡ 0 = omega arith in
    (λ j. record { called = e j; before = r.judges j; read = read }) ∙ (rw q at r.ends)

-- ---- the line of a refusal

pub refused-some : (ks : List Kind) (c : Carried) (line : ℕ) (xs : List (List Field)) → 0 < line
    → ((verdict (walk ks c line xs)).number ≡ 0 → ⊥) → 0 < (verdict (walk ks c line xs)).line
unfolding walk
refused-some [] c line [] h z = absurd (z refl)
refused-some [] c line (x ∷ xs) h z = h
refused-some (k ∷ ks) c line [] h z = h
refused-some (k ∷ ks) c line (x ∷ xs) h z =
    by-test (eqb (line_fault k (before c) x) 0)
    (λ t. rw t (refused-some (calls k x ++ ks) (learn k x c) (line + 1) xs (omega arith) (rw t at z))) (λ t. rw t h)
