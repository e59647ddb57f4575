-- Laws of a section written line by line, its count and after that its entries, and of the sections one behind the
-- other.
use Prim.Native.Nat.{ℕ, ◌+◌, ◌≤◌, ◌<◌}
use mathlib.Core.Path.{◌≡◌, sym, ap, ◌∙◌, subst}
use mathlib.Core.List.{List, [], ◌∷◌, ◌++◌, append_assoc, append-nil}
use mathlib.Core.Bool.{Bool, true, false}
use native.Mathlib.Numerals.{add-one}
use native.Mathlib.Omega.{arith}
use lib.ListN.{length, get_or, take}
use lib.Seq.{take-suc, take_all}
use Rattle.field.specs.declared.Field.{Field}
use Rattle.lines.specs.declared.Line.{Line}
use Rattle.lines.specs.Lines.{text_of_lines}
use Rattle.lines.specs.Held.{held, held_line}
use Rattle.page.specs.Writing.{Put}
use Rattle.lines.proofs.Held.{held_all}
use Rattle.lines_written.proofs.Texts.{text_of-append}
use Rattle.page.proofs.Put.{then, put-nothing, put-length}
use Rattle.rules.specs.declared.Section.{Section}
use Rattle.rules.specs.declared.Section.TheVariants.{«V», B, W, I, P, F}
use Rattle.job.specs.declared.Job.{Job}
use Rattle.building.specs.Year.{has_heights}
use Rattle.entry_written.specs.Fields.{face_fields}
use Rattle.job.specs.Carried.{no_face, carried}
use Rattle.rules.specs.Sections.{sections, section_at}
use Rattle.job.specs.Lines.{entries_of, section_of, sections_of, sheet_of}
use Rattle.job.proofs.Sections.{count_line}
use Rattle.job.proofs.Alone.{entry_of, entry-is}

-- a line made of entry i holds it
module _ (j : Job) where
  entry-six : (s : Section) (i : ℕ) → length (entry_of j s i) ≤ 6
  entry-six «V» i = omega arith
  entry-six B i = omega arith
  entry-six W i = omega arith
  entry-six I i = omega arith
  entry-six P i = omega arith
  entry-six F i = go (has_heights j.year)
    where
      go : (h : Bool) → length (face_fields h (get_or j.faces.entry i no_face)) ≤ 6
      go true = omega arith
      go false = omega arith

  pub entry-held : (s : Section) (i : ℕ) (x : Line) → i < length (entries_of (carried j) s)
      → x ≡ held_line 0 (entry_of j s i) → held x ≡ get_or (entries_of (carried j) s) i []
  entry-held s i x h e = rw e ((held_all 0 (entry_of j s i) (entry-six s i)).0 ∙ sym (entry-is j s i h))

-- lines, and then others from where they ended
pub then_lines : {l m n : List ℕ} {at r r' : ℕ} (xs ys : List (List Field)) → Put l at (text_of_lines xs) m r
    → Put m r (text_of_lines ys) n r' → Put l at (text_of_lines (xs ++ ys)) n r'
then_lines xs ys v w = rw text_of-append (then v w)

-- no entry yet, from where the count ended
pub put-none : {l m : List ℕ} {at r : ℕ} {s : List ℕ} → Put l at s m r → Put m r (text_of_lines []) m r
unfolding text_of_lines
put-none {l} {m} {at} {r} w = put-nothing m r (omega (arith, w.end, put-length w))

-- one entry more
pub put-entry : {l m n : List ℕ} {at r r' : ℕ} (es : List (List Field)) (i : ℕ) (x : Line) → i < length es
    → held x ≡ get_or es i []
    → Put l at (text_of_lines (take i es)) m r → Put m r (text_of_lines (held x ∷ [])) n r'
    → Put l at (text_of_lines (take (i + 1) es)) n r'
put-entry {l} {n = n} {at} {r' = r'} es i x h e v w =
    let q : take i es ++ (held x ∷ []) ≡ take (i + 1) es = rw (add-one, take-suc es i [], e) in
    rw q at (then_lines (take i es) (held x ∷ []) v w)

-- all of them: the section
pub put_all : {l m n : List ℕ} {at r r' : ℕ} (s : Section) (es : List (List Field)) (i : ℕ) (x : Line) → length es ≤ i
    → x ≡ held_line 0 (count_line s (length es))
    → Put l at (text_of_lines (held x ∷ [])) m r → Put m r (text_of_lines (take i es)) n r'
    → Put l at (text_of_lines (section_of s es)) n r'
put_all s es i x h e v w =
    let c : held x ≡ count_line s (length es) = rw e (held_all 0 (count_line s (length es)) (omega arith)).0 in
    then_lines (count_line s (length es) ∷ []) es (rw c at v) (rw (take_all i es h) at w)

-- ---- the sections of a sheet

module _ (es : Section → List (List Field)) where
  sections-one : (ss : List Section) (s : Section)
      → sections_of es ss ++ section_of s (es s) ≡ sections_of es (ss ++ (s ∷ []))
  sections-one [] s = sym (append-nil (section_of s (es s)))
  sections-one (t ∷ ss) s =
      append_assoc (section_of t (es t)) (sections_of es ss) (section_of s (es s))
      ∙ ap (λ (l : List (List Field)). section_of t (es t) ++ l) (sections-one ss s)

  module _ (h : Bool) where
    -- the first i of them
    abbrev pub PutSections : ℕ → List ℕ → List ℕ → ℕ → Type 0
    PutSections i l m r = Put l 0 (text_of_lines (sections_of es (take i (sections h)))) m r

    pub no-section : (l : List ℕ) → PutSections 0 l l 0
    unfolding text_of_lines
    no-section l = put-nothing l 0 (omega arith)

    pub one-section : {l m n : List ℕ} {r r' : ℕ} (i : ℕ) (s : Section) → i < length (sections h) → s ≡ section_at h i
        → PutSections i l m r → Put m r (text_of_lines (section_of s (es s))) n r' → PutSections (i + 1) l n r'
    one-section {l} {n = n} {r' = r'} i s few is v w =
        let ss = sections h in
        let q : sections_of es (take i ss) ++ section_of s (es s) ≡ sections_of es (take (i + 1) ss) =
        sections-one (take i ss) s
        ∙ ap (sections_of es) (ap (λ (t : Section). take i ss ++ (t ∷ [])) is ∙ sym (take-suc ss i «V» few) ∙ ap
        (λ (k : ℕ). take k ss) (sym (add-one i))) in
        subst (λ (xs : List (List Field)). Put l 0 (text_of_lines xs) n r') q
        (then_lines (sections_of es (take i ss)) (section_of s (es s)) v w)

    pub all-sections : {l m : List ℕ} {r i : ℕ} → i ≡ length (sections h) → PutSections i l m r
        → Put l 0 (text_of_lines (sheet_of h es)) m r
    all-sections {l} {m} {r} {i} e v =
        subst (λ (ss : List Section). Put l 0 (text_of_lines (sections_of es ss)) m r)
        (take_all i (sections h) (omega arith)) v
