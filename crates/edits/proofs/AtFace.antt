-- A sheet whose first fault is at one of its faces: refused with that face's fault, at its line.
use mathlib.Core.Path.{◌≡◌, refl, sym, ap, ap₂, ◌∙◌, subst}
use mathlib.Core.Bool.{Bool, true, false}
use mathlib.Core.List.{List, [], ◌∷◌, map}
use Prim.Native.Nat.{ℕ, ◌+◌, ◌<◌}
use native.Mathlib.Omega.{arith}
use lib.ListN.{length, get_or, take, length-map}
use Rattle.whole.specs.Lists.{Every}
use Rattle.whole.proofs.Lists.{every-by, map-every, map-take, get_d_map}
use Rattle.verdict.specs.Verdict.{refusal}
use Rattle.field.specs.declared.Field.{Field}
use Rattle.building.specs.Year.{has_heights, face_limit}
use Rattle.rules.specs.declared.Section.{Section}
use Rattle.rules.specs.declared.Section.TheVariants.{«V», B, W, I, P, F}
use Rattle.rules.specs.declared.Kind.TheVariants.{Entry}
use Rattle.rules.specs.Sections.{sections, line_fault}
use Rattle.entry.specs.declared.Face.{Face}
use Rattle.entry_written.specs.Fields.{face_fields}
use Rattle.job.specs.Carried.{Carried, nothing, no_face, before, with_faces}
use Rattle.job.specs.InOrder.{Within, InOrder}
use Rattle.job.specs.Lines.{entries_of, sheet_of, lines_of, face_line}
use Rattle.job.specs.Walk.{Accepted, Refused, read_lines}
use Rattle.job.proofs.InOrder.{in-order-accepted}
use Rattle.job.proofs.Walk.{learn_all, EntriesInOrder, entries-tell, every-entry}
use Rattle.job.proofs.Sections.{Counted, section-refused}
use Rattle.job.proofs.Sheet.{read_before, said_by, SheetInOrder, sheet-in-order, sheet-said, section-passed}
use Rattle.edits.proofs.Line.{lines_in, lines-counted}

-- what is read before the faces judges them as all that is said does
tells : (es : Section → List (List Field)) (h : Bool) (x : List Field)
    → line_fault (Entry F) (before (read_before es h F)) x ≡ line_fault (Entry F) (before (said_by es h)) x
unfolding line_fault
tells es true x = refl
tells es false x = refl

-- the same sheet with other faces
abbrev other : (Section → List (List Field)) → List (List Field) → Section → List (List Field)
other es xs «V» = es «V»
other es xs B = es B
other es xs W = es W
other es xs I = es I
other es xs P = es P
other es xs F = xs

module _ (es : Section → List (List Field)) (xs : List (List Field)) (i : ℕ) where
  -- the fault of entry i, by what is read before the faces
  abbrev fault_by : Bool → ℕ
  fault_by h = line_fault (Entry F) (before (learn_all F (take i xs) (read_before es h F))) (get_or xs i [])

  abbrev line_of : Bool → ℕ
  line_of true = lines_in es («V» ∷ B ∷ W ∷ I ∷ P ∷ []) + 2 + i
  line_of false = lines_in es (B ∷ W ∷ I ∷ []) + 2 + i

  faces-refused : (h : Bool) → Counted (said_by es h).year F (length xs) → i < length xs → SheetInOrder es h
      → EntriesInOrder F (read_before es h F) (take i xs) → (fault_by h ≡ 0 → ⊥)
      → read_lines (sheet_of h (other es xs)) ≡ Refused (refusal (fault_by h) (line_of h))
  unfolding read_lines
  faces-refused true few in_List o b z =
      let all = other es xs in
      section-passed all «V» (B ∷ W ∷ I ∷ P ∷ F ∷ []) nothing 1 (o.counted «V» tt) (o.entries «V» tt)
      ∙ section-passed all B (W ∷ I ∷ P ∷ F ∷ []) (read_before es true B) _ (o.counted B tt) (o.entries B tt)
      ∙ section-passed all W (I ∷ P ∷ F ∷ []) (read_before es true W) _ (o.counted W tt) (o.entries W tt)
      ∙ section-passed all I (P ∷ F ∷ []) (read_before es true I) _ (o.counted I tt) (o.entries I tt)
      ∙ section-passed all P (F ∷ []) (read_before es true P) _ (o.counted P tt) (o.entries P tt)
      ∙ section-refused F [] (read_before es true F) _ xs [] i few in_List b z
      ∙ ap (λ l. Refused (refusal (fault_by true) l)) (omega arith)
  faces-refused false few in_List o b z =
      let all = other es xs in
      section-passed all B (W ∷ I ∷ F ∷ []) nothing 1 (o.counted B tt) (o.entries B tt)
      ∙ section-passed all W (I ∷ F ∷ []) (read_before es false W) _ (o.counted W tt) (o.entries W tt)
      ∙ section-passed all I (F ∷ []) (read_before es false I) _ (o.counted I tt) (o.entries I tt)
      ∙ section-refused F [] (read_before es false F) _ xs [] i few in_List b z
      ∙ ap (λ l. Refused (refusal (fault_by false) l)) (omega arith)

-- ---- a job in order, with other faces

module _ (c : Carried) (o : InOrder c) (fs : List Face) (few : Within 1 (face_limit c.year) (length fs)) (i : ℕ)
    (in_List : i < length fs) where
  abbrev h : Bool
  h = has_heights c.year

  abbrev es : Section → List (List Field)
  es = entries_of c

  abbrev xs : List (List Field)
  xs = map (face_fields h) fs

  -- the fault of a face's line
  abbrev fault_of : Face → ℕ
  fault_of f = line_fault (Entry F) (before c) (face_fields h f)

  accepted : read_lines (sheet_of h es) ≡ Accepted c
  unfolding lines_of
  accepted = in-order-accepted c o

  judged-alike : (x : List Field)
      → line_fault (Entry F) (before (read_before es h F)) x ≡ line_fault (Entry F) (before c) x
  judged-alike x =
      tells es h x ∙ ap (λ d. line_fault (Entry F) (before d) x) (sym (sheet-said es h c accepted))

  earlier-fine : Every (λ f. fault_of f ≡ 0) (take i fs) → EntriesInOrder F (read_before es h F) (take i xs)
  earlier-fine e =
      every-entry F tt (take i xs) (read_before es h F)
      (rw (map-take (face_fields h) i fs)
      (map-every _ (face_fields h) (take i fs) (every-by (λ f z. judged-alike (face_fields h f) ∙ z) (take i fs) e)))

  fault-is : fault_by es xs i h ≡ fault_of (get_or fs i no_face)
  fault-is =
      entries-tell F tt (take i xs) (read_before es h F) (get_or xs i [])
      ∙ judged-alike (get_or xs i [])
      ∙ ap (line_fault (Entry F) (before c)) (get_d_map (face_fields h) fs i no_face [] in_List)

  same-sheet : (t : Bool) → sheet_of t (entries_of (with_faces fs c)) ≡ sheet_of t (other es xs)
  same-sheet true = refl
  same-sheet false = refl

  line-is : (t : Bool) → line_of es xs i t ≡ length (sheet_of t (entries_of (with_faces [] c))) + (i + 1)
  line-is true = omega (arith, lines-counted (entries_of (with_faces [] c)) (sections true))
  line-is false = omega (arith, lines-counted (entries_of (with_faces [] c)) (sections false))

  pub refused-at-face : Every (λ f. fault_of f ≡ 0) (take i fs) → (fault_of (get_or fs i no_face) ≡ 0 → ⊥)
      → read_lines (lines_of (with_faces fs c)) ≡ Refused (refusal (fault_of (get_or fs i no_face)) (face_line c
      (i + 1)))
  unfolding lines_of
  refused-at-face e z =
      let own : Counted c.year F (length xs) = rw (length-map fs (face_fields h)) few in
      let n = subst (λ (d : Carried). Counted d.year F (length xs)) (sheet-said es h c accepted) own in
      let l : i < length xs = rw (length-map fs (face_fields h)) in_List in
      ap read_lines (same-sheet h)
      ∙ faces-refused es xs i h n l (sheet-in-order es h c accepted) (earlier-fine e) (λ q. z (sym fault-is ∙ q))
      ∙ ap₂ (λ m k. Refused (refusal m k)) fault-is (line-is h)
