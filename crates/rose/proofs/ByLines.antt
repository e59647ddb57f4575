-- A file in parts: any cutting comes to the same, and at the end it is the rose of the file's lines.
use Prim.Native.Nat.{ℕ}
use mathlib.Core.Path.{◌≡◌, refl, ap, ◌∙◌, sym}
use mathlib.Core.List.{List, [], ◌∷◌, ◌++◌, append-nil, append_assoc}
use lib.Dec.{eqb}
use lib.ListN.{get_or, set}
use Rattle.whole.specs.Lists.{joined}
use Rattle.whole.proofs.Tests.{by-test}
use Rattle.verdict.specs.declared.Verdict.{Verdict}
use Rattle.verdict.specs.Verdict.{accepted}
use Rattle.field.specs.declared.Field.{Field}
use Rattle.lines.specs.Lines.{onto, split, fields_of, lines_from, lines_in}
use Rattle.lines.proofs.Lines.{split-until}
use Rattle.rose.specs.Observation.{Said}
use Rattle.rose.specs.declared.Pending.{Pending}
use Rattle.rose.specs.declared.Rose.{Rose}
use Rattle.rose.specs.Observation.{line_says, cell_in}
use Rattle.rose.specs.Rose.{no_bytes, no_lines, one_more, refused_at, fault_after, line_judged, while_open}
use Rattle.rose.specs.Rose.{lines_judged, shut, rose_of}
use Rattle.rose.specs.Pending.{line_more}
use Rattle.rose.specs.Taken.{pending_in, part_taken, end_taken}
use Rattle.rose.proofs.PendingLines.{line_after, line-append, line-says, after-bytes}
use Rattle.rose.proofs.Taken.{parts_taken, open_rose, part-append, refused-takes-nothing, end_whole, end-unended}

-- ---- a file is cut

-- any record, and any cutting, inside a number or with nothing in a part
pub parts-file : (r : Rose) (ps : List (List ℕ)) → parts_taken r ps ≡ part_taken r (joined ps)
unfolding parts_taken part_taken
parts-file r [] = refl
parts-file r (p ∷ ps) = parts-file (part_taken r p) ps ∙ sym (part-append r p (joined ps))

-- ---- the rose so far, by what stands between the LFs of a text: the last of it is pending, each other is a line

unfoldable so_far : Rose → List (List ℕ) → Rose
so_far r [] = r
so_far r (l ∷ []) = while_open r (pending_in r (line_after no_bytes l))
so_far r (l ∷ m ∷ ls) = so_far (while_open r (line_judged r (line_says (fields_of l)))) (m ∷ ls)

abbrev behind : List ℕ → List (List ℕ) → List (List ℕ)
behind p [] = p ∷ []
behind p (q ∷ qs) = (p ++ q) ∷ qs

behind-none : (s : List ℕ) → behind [] (split 10 s) ≡ split 10 s
behind-none s = rw (split-until 10 s)

behind-onto : (p : List ℕ) (x : ℕ) (ps : List (List ℕ)) → behind p (onto x ps) ≡ behind (p ++ (x ∷ [])) ps
behind-onto p x [] = refl
behind-onto p x (q ∷ qs) = rw append_assoc

-- a rose that refused a line stays
module _ (cell : List ℕ) (count n : ℕ) where
  so-far-refused : (ps : List (List ℕ)) → so_far (refused_at cell count n) ps ≡ refused_at cell count n
  unfolding so_far
  so-far-refused [] = refl
  so-far-refused (l ∷ []) = refl
  so-far-refused (l ∷ m ∷ ls) = so-far-refused (m ∷ ls)

  pub lines-refused : (ls : List (List Field)) → lines_judged (refused_at cell count n) ls ≡ refused_at cell count n
  unfolding lines_judged
  lines-refused [] = refl
  lines-refused (l ∷ ls) = lines-refused ls

so_far_more : (r : Rose) (l t : List ℕ)
    → so_far r (l ∷ split 10 t) ≡ so_far (while_open r (line_judged r (line_says (fields_of l)))) (split 10 t)
unfolding so_far
so_far_more r l t = rw (split-until 10 t)

line-one : (l : List ℕ) (b : ℕ) → line_more (line_after no_bytes l) b ≡ line_after no_bytes (l ++ (b ∷ []))
unfolding line_after
line-one l b = sym (line-append no_bytes l (b ∷ []))

module _ (v : Verdict) where
  -- behind a line, if what follows a line that is counted is so
  after_line : (s p : List ℕ) (count : ℕ) (cell : List ℕ)
      → ((m : ℕ) (c : List ℕ) → part_taken (open_rose v m c no_bytes) s ≡ so_far (open_rose v m c no_bytes)
      (split 10 s))
      → (x : Said)
      → part_taken (line_judged (open_rose v count cell (line_after no_bytes p)) x) s
      ≡ so_far (line_judged (open_rose v count cell no_bytes) x) (split 10 s)
  after_line s p count cell ih x =
      let n = fault_after count x in
      by-test (eqb n 0) (λ t. rw t (ih (one_more count) (set cell (cell_in x) (one_more (get_or cell (cell_in x) 0)))))
      (λ t. rw t (refused-takes-nothing cell count n s ∙ sym (so-far-refused cell count n (split 10 s))))

  -- bytes one by one are the lines of their text
  so-far : (s p : List ℕ) (count : ℕ) (cell : List ℕ)
      → part_taken (open_rose v count cell (line_after no_bytes p)) s
      ≡ so_far (open_rose v count cell no_bytes) (behind p (split 10 s))
  unfolding part_taken split so_far line_after
  so-far [] p count cell = rw append-nil
  so-far (x ∷ s) p count cell =
      by-test (eqb x 10)
      (λ t.
      rw (t, line-says p)
      (after_line s p count cell
      (λ m c. so-far s [] m c ∙ ap (so_far (open_rose v m c no_bytes)) (behind-none s)) (line_says (fields_of p))
      ∙ sym (so_far_more (open_rose v count cell no_bytes) p s)
      ∙ ap (λ (q : List ℕ). so_far (open_rose v count cell no_bytes) (q ∷ split 10 s)) (sym (append-nil p))))
      (λ t.
      rw t
      (ap (λ (h : Pending). part_taken (open_rose v count cell h) s) (line-one p x)
      ∙ so-far s (p ++ (x ∷ [])) count cell
      ∙ ap (so_far (open_rose v count cell no_bytes)) (sym (behind-onto p x (split 10 s)))))

  -- ---- the end

  end_line : (ps : List (List ℕ)) (ls : List (List Field)) (count : ℕ) (cell : List ℕ)
      → ((m : ℕ) (c : List ℕ)
      → end_taken (so_far (open_rose v m c no_bytes) ps) ≡ shut (lines_judged (open_rose v m c no_bytes) ls))
      → (x : Said)
      → end_taken (so_far (line_judged (open_rose v count cell no_bytes) x) ps)
      ≡ shut (lines_judged (line_judged (open_rose v count cell no_bytes) x) ls)
  unfolding end_taken
  end_line ps ls count cell ih x =
      let n = fault_after count x in
      by-test (eqb n 0) (λ t. rw t (ih (one_more count) (set cell (cell_in x) (one_more (get_or cell (cell_in x) 0)))))
      (λ t. rw t (rw (so-far-refused cell count n ps, lines-refused cell count n ls) refl))

  so-far-end : (ps : List (List ℕ)) (count : ℕ) (cell : List ℕ)
      → end_taken (so_far (open_rose v count cell no_bytes) ps)
      ≡ shut (lines_judged (open_rose v count cell no_bytes) (lines_from ps))
  unfolding so_far lines_judged lines_from line_after
  so-far-end [] count cell = end_whole (open_rose v count cell no_bytes) refl refl
  so-far-end ([] ∷ []) count cell = end_whole (open_rose v count cell no_bytes) refl refl
  so-far-end ((b ∷ l) ∷ []) count cell =
      end-unended (open_rose v count cell (line_after no_bytes (b ∷ l))) refl (after-bytes b l)
  so-far-end (l ∷ m ∷ ls) count cell =
      end_line (m ∷ ls) (lines_from (m ∷ ls)) count cell (λ n c. so-far-end (m ∷ ls) n c) (line_says (fields_of l))

-- THE ROSE OF A FILE
pub file-rose : (s : List ℕ) → end_taken (part_taken no_lines s) ≡ rose_of s
unfolding rose_of lines_in line_after
file-rose s =
    ap end_taken (so-far accepted s [] 0 no_lines.cell ∙ ap (so_far no_lines) (behind-none s))
    ∙ so-far-end accepted (split 10 s) 0 no_lines.cell

-- .. THAT CAME IN PARTS
pub parts-rose : (ps : List (List ℕ)) → end_taken (parts_taken no_lines ps) ≡ rose_of (joined ps)
parts-rose ps = ap end_taken (parts-file no_lines ps) ∙ file-rose (joined ps)
