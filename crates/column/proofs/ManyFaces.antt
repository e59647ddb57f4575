-- A setting with a list of faces is judged as the job whose record holds what it can of the list: where there are more
-- faces than a sheet may have, the reading ends at their count, whatever they are.
use mathlib.Core.Path.{◌≡◌, refl, sym, ap, ◌∙◌}
use mathlib.Core.Bool.{Bool, true, false, cond, ◌&&◌, ◌||◌}
use mathlib.Core.List.{List, [], ◌∷◌, ◌++◌, map, append_assoc}
use Prim.Native.Nat.{ℕ, ◌+◌, min, ◌≤◌, ◌<◌}
use native.Mathlib.Omega.{arith}
use lib.Dec.{eqb, leb, ltb}
use lib.ListN.{length, length-map}
use borrow.Author.Tests.{eqb-true, eqb-false, leb-true, leb-false, lt-ltb, le-ltb}
use Rattle.whole.specs.Lists.{first_of}
use Rattle.whole.proofs.Tests.{by-test}
use Rattle.whole.proofs.Lists.{first_of-length, first_of-fewer, first_of-all}
use Rattle.verdict.specs.Verdict.{refusal}
use Rattle.field.specs.declared.Field.{Field}
use Rattle.field.specs.declared.Field.TheVariants.{Plus}
use Rattle.building.specs.Test.{beyond}
use Rattle.building.specs.Fault.{first}
use Rattle.building.specs.Year.{has_heights, face_limit}
use Rattle.entry.specs.declared.Face.{Face}
use Rattle.entry.specs.Says.{carried_face}
use Rattle.entry_written.specs.Fields.{face_fields}
use Rattle.rules.specs.declared.Before.{Before}
use Rattle.rules.specs.declared.Section.{Section}
use Rattle.rules.specs.declared.Section.TheVariants.{«V», B, W, I, P, F}
use Rattle.rules.specs.declared.Kind.{Kind}
use Rattle.rules.specs.declared.Kind.TheVariants.{Count, Entry}
use Rattle.rules.specs.declared.FieldForm.TheVariants.{Mark}
use Rattle.rules.specs.Form.{has_form, in_form, number_forms}
use Rattle.rules.specs.Sections.{faults_of, line_fault}
use Rattle.job.specs.Carried.{Carried, nothing, with_faces, before, carried, no_face, most_faces}
use Rattle.job.specs.Lines.{entries_of, section_of, sections_of, sheet_of, lines_of}
use Rattle.job.specs.Walk.{Refused, calls, learn, walk, sheet, read_lines, judged}
use Rattle.job.proofs.Room.{limit-roomed}
use Rattle.job.proofs.Walk.{walk-on, walk_refused}
use Rattle.job.proofs.Sections.{count_line}
use Rattle.job.specs.declared.Setting.{Setting}
use Rattle.column.specs.Listed.{listed}
use Rattle.job.specs.Setting.{record_with}
use Rattle.column.specs.Setting.{judged_with}

-- ---- the count of too many faces

-- it has a fault wherever it stands, and that does not go by the count
abbrev count_fault : Kind → ℕ
count_fault (Count «V») = 1
count_fault (Count B) = 1
count_fault (Count W) = 1
count_fault (Count I) = 1
count_fault (Count P) = 1
count_fault (Count F) = 2
count_fault (Entry s) = 1

too_many : (n : ℕ) → most_faces < n → (k : Kind) (b : Before) → line_fault k b (count_line F n) ≡ count_fault k
unfolding line_fault in_form has_form beyond
too_many n h (Count «V») b = refl
too_many n h (Count B) b = refl
too_many n h (Count W) b = refl
too_many n h (Count I) b = refl
too_many n h (Count P) b = refl
too_many n h (Count F) b = many
  where
    many : ◌≡◌ {A = ℕ} (cond (ltb n 1 || ltb (face_limit b.year) n) 2 0) 2
    many = rw (le-ltb n 1 (omega arith), lt-ltb (face_limit b.year) n (omega (arith, limit-roomed b.year, h)))
too_many n h (Entry «V») b = refl
too_many n h (Entry B) b = refl
too_many n h (Entry W) b = refl
too_many n h (Entry I) b = refl
too_many n h (Entry P) b = refl
too_many n h (Entry F) b = go (has_heights b.year) (has_form Mark (Plus n))
  where
    go : (heights mark : Bool)
        → cond (mark && in_form (number_forms (cond heights 4 3)) []) (first (faults_of (Entry F) b
        (count_line F n))) 1 ≡ 1
    go true true = refl
    go true false = refl
    go false true = refl
    go false false = refl

some-fault : (k : Kind) → 0 < count_fault k
some-fault (Count «V») = omega arith
some-fault (Count B) = omega arith
some-fault (Count W) = omega arith
some-fault (Count I) = omega arith
some-fault (Count P) = omega arith
some-fault (Count F) = omega arith
some-fault (Entry s) = omega arith

-- lines up to such a count are read alike, whatever follows it
module _ (m n : ℕ) (hm : most_faces < m) (hn : most_faces < n) (rest rest' : List (List Field)) where
  refused-at : (n : ℕ) → most_faces < n → (rest : List (List Field)) (k : Kind) (ks : List Kind) (c : Carried)
      (line : ℕ)
      → walk (k ∷ ks) c line (count_line F n ∷ rest) ≡ Refused (refusal (count_fault k) line)
  refused-at n h rest k ks c line =
      let e = too_many n h k (before c) in
      walk_refused k ks c line (count_line F n) rest (λ z. omega (arith, e, some-fault k))
      ∙ ap (λ f. Refused (refusal f line)) e

  alike : (ks : List Kind) (c : Carried) (line : ℕ) (xs : List (List Field))
      → walk ks c line (xs ++ (count_line F m ∷ rest)) ≡ walk ks c line (xs ++ (count_line F n ∷ rest'))
  unfolding walk
  alike [] c line [] = refl
  alike (k ∷ ks) c line [] = refused-at m hm rest k ks c line ∙ sym (refused-at n hn rest' k ks c line)
  alike [] c line (x ∷ xs) = refl
  alike (k ∷ ks) c line (x ∷ xs) =
      let first = xs ++ (count_line F m ∷ rest) in
      let second = xs ++ (count_line F n ∷ rest') in
      by-test (eqb (line_fault k (before c) x) 0)
      (λ t.
      let q = eqb-true _ _ t in
      walk-on k ks c line x first q ∙ alike (calls k x ++ ks) (learn k x c) (line + 1) xs
      ∙ sym (walk-on k ks c line x second q))
      (λ t.
      let q = eqb-false _ _ t in
      walk_refused k ks c line x first q ∙ sym (walk_refused k ks c line x second q))

-- ---- the lines of a sheet, up to its faces

faces-last : (es : Section → List (List Field)) (ss : List Section)
    → sections_of es (ss ++ (F ∷ [])) ≡ sections_of es ss ++ sections_of es (F ∷ [])
faces-last es [] = refl
faces-last es (s ∷ ss) =
    ap (λ l. section_of s (es s) ++ l) (faces-last es ss)
    ∙ sym (append_assoc (section_of s (es s)) (sections_of es ss) (sections_of es (F ∷ [])))

-- two sheets that differ in their faces alone, of which both have too many
module _ (c : Carried) (fs gs : List Face) (hf : most_faces < length fs) (hg : most_faces < length gs) where
  abbrev lines : List Face → List Section → List (List Field)
  lines l = sections_of (entries_of (with_faces l c))

  abbrev written : List Face → List (List Field)
  written l = map (face_fields (has_heights c.year)) l

  many : (l : List Face) → most_faces < length l → most_faces < length (written l)
  many l h = omega (arith, length-map l (face_fields (has_heights c.year)))

  fronts-alike : (h : Bool) (ss : List Section) (same : lines fs ss ≡ lines gs ss)
      → walk (sheet h) nothing 1 (lines fs (ss ++ (F ∷ []))) ≡ walk (sheet h) nothing 1 (lines gs (ss ++ (F ∷ [])))
  fronts-alike h ss same =
      ap (walk (sheet h) nothing 1)
      (faces-last (entries_of (with_faces fs c)) ss ∙ ap (λ l. l ++ lines fs (F ∷ [])) same)
      ∙ alike (length (written fs)) (length (written gs)) (many fs hf) (many gs hg) (written fs ++ [])
      (written gs ++ [])
      (sheet h) nothing 1 (lines gs ss)
      ∙ sym (ap (walk (sheet h) nothing 1) (faces-last (entries_of (with_faces gs c)) ss))

  sheets-alike : (h : Bool)
      → read_lines (sheet_of h (entries_of (with_faces fs c))) ≡ read_lines (sheet_of h (entries_of (with_faces gs c)))
  unfolding read_lines
  sheets-alike true = fronts-alike true («V» ∷ B ∷ W ∷ I ∷ P ∷ []) refl
  sheets-alike false = fronts-alike false (B ∷ W ∷ I ∷ []) refl

-- ---- a setting with a list of faces

module _ (s : Setting) (fs : List Face) where
  abbrev c : Carried
  c = carried (record_with s (listed []))

  abbrev kept : List Face → List Face
  kept l = map (carried_face (has_heights s.year)) l

  -- what its record carries: as many faces as it counts
  abbrev counted : List Face
  counted = first_of no_face (min (length fs) (most_faces + 1)) (first_of no_face most_faces fs)

  record-carries : carried (record_with s (listed fs)) ≡ with_faces (kept counted) c
  unfolding carried listed
  record-carries = refl

  few : length fs ≤ most_faces → counted ≡ fs
  few h =
      let n : min (length fs) (most_faces + 1) ≡ length fs = omega arith in
      ap (λ m. first_of no_face m (first_of no_face most_faces fs)) n
      ∙ first_of-fewer no_face (length fs) most_faces fs h ∙ first_of-all no_face fs

  lines-alike : most_faces < length fs
      → read_lines (lines_of (with_faces (kept counted) c)) ≡ read_lines (lines_of (with_faces (kept fs) c))
  unfolding lines_of
  lines-alike h =
      let n = first_of-length no_face (min (length fs) (most_faces + 1)) (first_of no_face most_faces fs) in
      sheets-alike c (kept counted) (kept fs)
      (omega (arith, n, length-map counted (carried_face (has_heights s.year))))
      (omega (arith, length-map fs (carried_face (has_heights s.year))))
      (has_heights c.year)

  pub judged-listed : judged (record_with s (listed fs)) ≡ judged_with s fs
  unfolding judged judged_with
  judged-listed =
      ap (λ d. read_lines (lines_of d)) record-carries
      ∙ by-test (leb (length fs) most_faces)
      (λ t. ap (λ l. read_lines (lines_of (with_faces (kept l) c))) (few (leb-true _ _ t)))
      (λ t. lines-alike (leb-false _ _ t))
