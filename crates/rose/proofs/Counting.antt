-- The rose of a file is the rose of its lines, and no other is.
use Prim.Native.Nat.{ℕ, suc, ◌+◌, ◌≤◌, ◌<◌}
use mathlib.Core.Path.{◌≡◌, refl, ap, ◌∙◌, sym}
use mathlib.Core.Bool.{cond}
use mathlib.Core.List.{List, [], ◌∷◌, ◌++◌, append-nil, append_assoc}
use native.Mathlib.Omega.{arith}
use lib.Dec.{ltb, eqb}
use lib.ListN.{length, get_or, take, set, length-append, length-set, get_or-append, get_or-replicate}
use lib.Seq.{take-length, take-append_seam, get_or-append_seam, get_or-set_same, get_or-set_other, ext_get_or}
use borrow.Author.Tests.{ltb-true, ltb-false, eqb-true, eqb-false}
use Rattle.whole.proofs.Tests.{by-test}
use Rattle.verdict.specs.Verdict.{accepted, refusal}
use Rattle.field.specs.declared.Field.{Field}
use Rattle.lines.specs.Lines.{lines_in}
use Rattle.rose.specs.Observation.{Said}
use Rattle.std.specs.Prelude.{Ok, Err}
use Rattle.rose.specs.declared.Misread.TheVariants.{OutOfForm, OutOfRange}
use Rattle.rose.specs.declared.Rose.{Rose}
use Rattle.rose.specs.Observation.{line_says, cell_in}
use Rattle.rose.specs.Rose.{most_lines, no_bytes, no_lines, one_more, refused_at, fault_after, line_judged}
use Rattle.rose.specs.Rose.{lines_judged, rose_of}
use Rattle.rose.specs.IsRose.{cell_sum, in_cell, count_in, fault_at, IsRose}
use Rattle.rose.proofs.Taken.{open_rose}
use Rattle.rose.proofs.Sums.{one_more_lem, cell-more, sum_more, faultless-room}
use Rattle.rose.proofs.Observation.{line_small}
use Rattle.rose.proofs.ByLines.{lines-refused}

count-append : (k : ℕ) (ls ms : List (List Field)) → count_in k (ls ++ ms) ≡ count_in k ls + count_in k ms
unfolding count_in
count-append k [] ms = omega arith
count-append k (l ∷ ls) ms = omega (arith, count-append k ls ms)

-- a line without a fault stands in its cell and in no other
says-cell : (count j : ℕ) (x : Said) → fault_after count x ≡ 0 → in_cell j x ≡ cond (eqb (cell_in x) j) 1 0
says-cell count j (Err OutOfForm) e = absurd (omega arith)
says-cell count j (Err OutOfRange) e = absurd (omega arith)
says-cell count j (Ok k) e = refl

-- ---- lines counted

record Counted (done : List (List Field)) (cell : List ℕ) : Type 0 where
  pub room : length done ≤ most_lines
  pub good : (i : ℕ) → i < length done → fault_at done i ≡ 0
  pub size : length cell ≡ 208
  pub each : (k : ℕ) → k < 208 → get_or cell k 0 ≡ count_in k done
  pub sum : cell_sum cell ≡ length done

-- and one line more
module _ (done : List (List Field)) (cell : List ℕ) (c : Counted done cell) (l : List Field)
    (ok : fault_after (length done) (line_says l) ≡ 0) where
  abbrev k : ℕ
  k = cell_in (line_says l)

  fewer : length done < most_lines
  fewer = faultless-room (length done) (line_says l) ok

  inside : k < length cell
  inside = omega (arith, c.size, line_small l)

  small : cell_sum cell < 4294967295
  small = omega (arith, c.sum, fewer)

  longer : length (done ++ (l ∷ [])) ≡ length done + 1
  longer = length-append done (l ∷ []) ∙ omega arith

  good_more : (i : ℕ) → i < length (done ++ (l ∷ [])) → fault_at (done ++ (l ∷ [])) i ≡ 0
  good_more i b =
      by-test (ltb i (length done))
      (λ t. let d : i < length done = ltb-true _ _ t in rw (get_or-append done (l ∷ []) [] i d) (c.good i d))
      (λ t.
      let e : i ≡ length done = omega (arith, longer, ltb-false i (length done) t) in
      rw (e, get_or-append_seam done l [] []) ok)

  each_more : (j : ℕ) → j < 208 → get_or (set cell k (one_more (get_or cell k 0))) j 0 ≡ count_in j (done ++ (l ∷ []))
  unfolding count_in
  each_more j b =
      let a = count-append j done (l ∷ []) in
      let q = says-cell (length done) j (line_says l) ok in
      let v = one_more (get_or cell k 0) in
      by-test (eqb k j)
      (λ t.
      let e : k ≡ j = eqb-true k j t in
      let z : in_cell j (line_says l) ≡ 1 = q ∙ rw t in
      ap (λ (i : ℕ). get_or (set cell k v) i 0) (sym e)
      ∙ get_or-set_same cell k v 0 inside
      ∙ cell-more cell k inside small
      ∙ ap (λ (i : ℕ). get_or cell i 0 + 1) e
      ∙ omega (arith, a, z, c.each j b))
      (λ t.
      let z : in_cell j (line_says l) ≡ 0 = q ∙ rw t in
      get_or-set_other cell k j v 0 (λ e. eqb-false k j t (sym e)) ∙ omega (arith, a, z, c.each j b))

  counted-more : Counted (done ++ (l ∷ [])) (set cell k (one_more (get_or cell k 0)))
  counted-more =
      record {
        room = omega (arith, longer, fewer);
        good = good_more;
        size = length-set cell k (one_more (get_or cell k 0)) ∙ c.size;
        each = each_more;
        sum = omega (arith, longer, c.sum, sum_more cell k inside small);
      }

-- ---- all lines

module _ (done : List (List Field)) (cell : List ℕ) (c : Counted done cell) where
  all-counted : IsRose done (open_rose accepted (length done) cell no_bytes)
  all-counted =
      record {
        within = omega arith;
        good = c.good;
        some = λ h. absurd (omega arith);
        first = λ h. absurd (omega arith);
        none = λ h. refl;
        size = c.size;
        each = λ k h. c.each k h ∙ ap (count_in k) (sym (take-length done));
        sum = c.sum;
      }

  one-refused : (l : List Field) (ls : List (List Field)) → 0 < fault_after (length done) (line_says l)
      → IsRose (done ++ (l ∷ ls)) (refused_at cell (length done) (fault_after (length done) (line_says l)))
  one-refused l ls p =
      let n = length done in
      let q : length (done ++ (l ∷ ls)) ≡ n + suc (length ls) = length-append done (l ∷ ls) in
      let e : get_or (done ++ (l ∷ ls)) n [] ≡ l = get_or-append_seam done l ls [] in
      record {
        within = omega arith;
        good = λ i h. rw (get_or-append done (l ∷ ls) [] i h) (c.good i h);
        some = λ h. rw e p;
        first = λ h. rw (e, one_more_lem n (omega (arith, c.room))) refl;
        none = λ h. absurd (omega arith);
        size = c.size;
        each = λ k h. c.each k h ∙ ap (count_in k) (sym (take-append_seam done (l ∷ ls)));
        sum = c.sum;
      }

  -- one line and then others, if those are so
  line-counted : (l : List Field) (ls : List (List Field))
      → ((d : List ℕ) → Counted (done ++ (l ∷ [])) d
      → IsRose ((done ++ (l ∷ [])) ++ ls) (lines_judged (open_rose accepted (length (done ++ (l ∷ []))) d no_bytes) ls))
      → IsRose (done ++ (l ∷ ls))
      (lines_judged (line_judged (open_rose accepted (length done) cell no_bytes) (line_says l)) ls)
  line-counted l ls ih =
      let n = fault_after (length done) (line_says l) in
      by-test (eqb n 0)
      (λ t.
      let ok : n ≡ 0 = eqb-true _ _ t in
      let k = cell_in (line_says l) in
      let m : one_more (length done) ≡ length (done ++ (l ∷ [])) =
      one_more_lem (length done) (omega (arith, fewer done cell c l ok)) ∙ sym (longer done cell c l ok) in
      let g : done ++ (l ∷ ls) ≡ (done ++ (l ∷ [])) ++ ls = sym (append_assoc done (l ∷ []) ls) in
      rw (t, m, g) (ih (set cell k (one_more (get_or cell k 0))) (counted-more done cell c l ok)))
      (λ t.
      rw (t, lines-refused cell (length done) n ls)
      (one-refused l ls (omega (arith, eqb-false n 0 t))))

lines-counted : (ls done : List (List Field)) (cell : List ℕ) → Counted done cell
    → IsRose (done ++ ls) (lines_judged (open_rose accepted (length done) cell no_bytes) ls)
unfolding lines_judged
lines-counted [] done cell c = rw append-nil (all-counted done cell c)
lines-counted (l ∷ ls) done cell c = line-counted done cell c l ls (λ d e. lines-counted ls (done ++ (l ∷ [])) d e)

none-counted : Counted [] no_lines.cell
unfolding cell_sum count_in
none-counted =
    record {
      room = omega arith;
      good = λ i h. absurd (omega arith);
      size = refl;
      each = λ k h. get_or-replicate 208 k 0 0 h;
      sum = refl;
    }

-- THE COUNTS, THEIR SUM AND THE FIRST FAULT
pub rose-is : (file : List ℕ) → IsRose (lines_in file) (rose_of file)
unfolding rose_of
rose-is file =
    let t = lines-counted (lines_in file) [] no_lines.cell none-counted in
    record {
      within = t.within;
      good = t.good;
      some = t.some;
      first = t.first;
      none = t.none;
      size = t.size;
      each = t.each;
      sum = t.sum;
    }

-- ---- no other rose is

not-before : (ls : List (List Field)) (q r : Rose) → IsRose ls q → IsRose ls r → q.accepted < r.accepted → ⊥
not-before ls q r a b h = omega (arith, a.some (omega (arith, b.within)), b.good q.accepted h)

module _ (ls : List (List Field)) (q r : Rose) (a : IsRose ls q) (b : IsRose ls r) where
  pub same-accepted : q.accepted ≡ r.accepted
  same-accepted =
      by-test (ltb q.accepted r.accepted) (λ t. absurd (not-before ls q r a b (ltb-true _ _ t)))
      (λ t. by-test (ltb r.accepted q.accepted) (λ u. absurd (not-before ls r q b a (ltb-true _ _ u)))
      (λ u. omega (arith, ltb-false q.accepted r.accepted t, ltb-false r.accepted q.accepted u)))

  pub same-cells : q.cell ≡ r.cell
  same-cells =
      ext_get_or 0 q.cell r.cell (a.size ∙ sym b.size)
      (λ k h.
      a.each k (omega (arith, a.size))
      ∙ ap (λ (n : ℕ). count_in k (take n ls)) same-accepted
      ∙ sym (b.each k (omega (arith, a.size))))

  pub same-verdict : q.verdict ≡ r.verdict
  same-verdict =
      by-test (ltb q.accepted (length ls))
      (λ t.
      let h : q.accepted < length ls = ltb-true _ _ t in
      a.first h
      ∙ ap (λ (n : ℕ). refusal (fault_at ls n) (n + 1)) same-accepted
      ∙ sym (b.first (omega (arith, same-accepted))))
      (λ t.
      let e : q.accepted ≡ length ls = omega (arith, a.within, ltb-false q.accepted (length ls) t) in
      a.none e ∙ sym (b.none (sym same-accepted ∙ e)))
