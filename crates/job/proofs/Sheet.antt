-- Lines are accepted exactly if they are the sections of a sheet, each in order; what is read is then what their
-- entries say.
use Prim.Native.Nat.{ℕ, zero, suc, ◌+◌}
use mathlib.Core.Path.{◌≡◌, refl, ap, ◌∙◌, sym, subst}
use mathlib.Core.List.{List, [], ◌∷◌, ◌++◌, map, append_assoc, append-nil}
use mathlib.Core.Bool.{Bool, true, false, cond}
use native.Mathlib.Omega.{arith}
use lib.Dec.{T}
use lib.IntN.{pos}
use lib.ListN.{length, get_or, take}
use Rattle.whole.specs.Lists.{Every}
use Rattle.whole.proofs.Lists.{every-by, only_one}
use Rattle.field.specs.declared.Field.{Field}
use Rattle.rules.specs.declared.Section.{Section}
use Rattle.rules.specs.declared.Section.TheVariants.{«V», B, W, I, P, F}
use Rattle.rules.specs.declared.Kind.TheVariants.{Count, Entry}
use Rattle.rules.specs.Sections.{sections, line_fault}
use Rattle.building.specs.Year.{has_heights}
use Rattle.entry.specs.Says.{year_of, building_of, wind_of, internal_of, step_of, face_of}
use Rattle.job.specs.Carried.{Carried, nothing, with_year, with_building, with_winds, with_internals, with_profile}
use Rattle.job.specs.Carried.{with_faces, before}
use Rattle.job.specs.Lines.{section_of, sections_of, sheet_of}
use Rattle.job.specs.Walk.{learn, Accepted, walk, opening, read_lines}
use Rattle.job.proofs.Sections.{Counted, section-walk, section-in-order, section-begun}
use Rattle.job.proofs.Walk.{accepted-end, learn_all, EntriesInOrder, Apart, entries-every, every-entry}

-- ---- what a section adds to what was read before it

abbrev pub gained : Section → List (List Field) → Carried → Carried
gained «V» xs c = with_year (year_of (get_or xs 0 [])) c
gained B xs c = with_building (building_of (get_or xs 0 [])) c
gained W xs c = with_winds (c.winds ++ map wind_of xs) c
gained I xs c = with_internals (c.internals ++ map internal_of xs) c
gained P xs c = with_profile (c.profile ++ map step_of xs) c
gained F xs c = with_faces (c.faces ++ map (face_of (has_heights c.year)) xs) c

-- entries are learned one after the other, at the end of the list that they make
learn-list : {A : Type 0} (s : Section) (of : List Field → A) (put : List A → Carried)
    → ((l : List A) (x : List Field) → learn (Entry s) x (put l) ≡ put (l ++ (of x ∷ [])))
    → (l : List A) (xs : List (List Field)) → learn_all s xs (put l) ≡ put (l ++ map of xs)
learn-list s of put step l [] = ap put (sym (append-nil l))
learn-list s of put step l (x ∷ xs) =
    rw (step l x) (learn-list s of put step (l ++ (of x ∷ [])) xs ∙ ap put (append_assoc l (of x ∷ []) (map of xs)))

pub section-learned : (s : Section) (xs : List (List Field)) (c : Carried) → Counted c.year s (length xs)
    → learn_all s xs c ≡ gained s xs c
section-learned «V» xs c w =
    ap (λ (ys : List (List Field)). learn_all «V» ys c) (only_one xs [] (omega (arith, w.low, w.high)))
section-learned B xs c w =
    ap (λ (ys : List (List Field)). learn_all B ys c) (only_one xs [] (omega (arith, w.low, w.high)))
section-learned W xs c w = learn-list W wind_of (λ l. with_winds l c) (λ l x. refl) c.winds xs
section-learned I xs c w = learn-list I internal_of (λ l. with_internals l c) (λ l x. refl) c.internals xs
section-learned P xs c w = learn-list P step_of (λ l. with_profile l c) (λ l x. refl) c.profile xs
section-learned F xs c w =
    learn-list F (face_of (has_heights c.year)) (λ l. with_faces l c) (λ l x. refl) c.faces xs

-- ---- sections, one after the other

-- the sections of a sheet: V and P only where it has heights
abbrev pub Called : Bool → Section → Type 0
Called h «V» = T h
Called h B = Unit
Called h W = Unit
Called h I = Unit
Called h P = T h
Called h F = Unit

-- how many stand before one
abbrev earlier : Bool → Section → ℕ
earlier h «V» = 0
earlier h B = cond h 1 0
earlier h W = cond h 2 1
earlier h I = cond h 3 2
earlier h P = 4
earlier h F = cond h 5 3

module _ (es : Section → List (List Field)) where
  abbrev gained_all : List Section → Carried → Carried
  gained_all [] c = c
  gained_all (s ∷ ss) c = gained_all ss (gained s (es s) c)

  abbrev SectionsInOrder : List Section → Carried → Type 0
  SectionsInOrder [] c = Unit
  SectionsInOrder (s ∷ ss) c =
      Counted c.year s (length (es s)) × EntriesInOrder s c (es s) × SectionsInOrder ss (gained s (es s) c)

  -- a section in order, and what is called for behind it
  pub section-passed : (s : Section) (ss : List Section) (c : Carried) (line : ℕ)
      → Counted c.year s (length (es s)) → EntriesInOrder s c (es s)
      → walk (map Count (s ∷ ss)) c line (sections_of es (s ∷ ss)) ≡ walk (map Count ss) (gained s (es s) c)
      (line + 1 + length (es s)) (sections_of es ss)
  section-passed s ss c line w h =
      section-walk s (map Count ss) c line (es s) (sections_of es ss) w h
      ∙ ap (λ (d : Carried). walk (map Count ss) d (line + 1 + length (es s)) (sections_of es ss))
      (section-learned s (es s) c w)

  sections-accepted : (ss : List Section) (c : Carried) (line : ℕ) → SectionsInOrder ss c
      → walk (map Count ss) c line (sections_of es ss) ≡ Accepted (gained_all ss c)
  unfolding walk
  sections-accepted [] c line o = refl
  sections-accepted (s ∷ ss) c line o =
      section-passed s ss c line o.0 o.1
      ∙ sections-accepted ss (gained s (es s) c) (line + 1 + length (es s)) o.2

  sections-in-order : (ss : List Section) (c e : Carried) (line : ℕ)
      → walk (map Count ss) c line (sections_of es ss) ≡ Accepted e → SectionsInOrder ss c
  sections-in-order [] c e line a = tt
  sections-in-order (s ∷ ss) c e line a =
      let t = section-in-order s (map Count ss) c line e (es s) (sections_of es ss) a in (
        t.0,
        t.1,
        sections-in-order ss (gained s (es s) c) e (line + 1 + length (es s))
            (sym (section-passed s ss c line t.0 t.1) ∙ a),
      )

  -- ---- the sections of a sheet

  -- what the entries say
  abbrev pub said_by : Bool → Carried
  said_by h =
      let year = cond h (year_of (get_or (es «V») 0 [])) (pos 1) in
      record {
        year = year;
        building = building_of (get_or (es B) 0 []);
        winds = map wind_of (es W);
        internals = map internal_of (es I);
        profile = cond h (map step_of (es P)) [];
        faces = map (face_of (has_heights year)) (es F);
      }

  -- what those before a section say
  abbrev pub read_before : Bool → Section → Carried
  read_before h s = gained_all (take (earlier h s) (sections h)) nothing

  pub record SheetInOrder (h : Bool) : Type 0 where
    pub counted : (s : Section) → Called h s → Counted (said_by h).year s (length (es s))
    pub entries : (s : Section) → Called h s → EntriesInOrder s (read_before h s) (es s)

  pub sheet-accepted : (h : Bool) → SheetInOrder h → read_lines (sheet_of h es) ≡ Accepted (said_by h)
  unfolding read_lines
  sheet-accepted true o =
      sections-accepted (sections true) nothing 1 (
        o.counted «V» tt,
        o.entries «V» tt,
        (
          o.counted B tt,
          o.entries B tt,
          (
            o.counted W tt,
            o.entries W tt,
            (
              o.counted I tt,
              o.entries I tt,
              (o.counted P tt, o.entries P tt, (o.counted F tt, o.entries F tt, tt)),
            ),
          ),
        ),
      )
  sheet-accepted false o =
      sections-accepted (sections false) nothing 1 (
        o.counted B tt,
        o.entries B tt,
        (
          o.counted W tt,
          o.entries W tt,
          (o.counted I tt, o.entries I tt, (o.counted F tt, o.entries F tt, tt)),
        ),
      )

  counted-in : (h : Bool) → SectionsInOrder (sections h) nothing → (s : Section) → Called h s
      → Counted (said_by h).year s (length (es s))
  counted-in true o «V» k = o.0
  counted-in true o B k = o.2.0
  counted-in true o W k = o.2.2.0
  counted-in true o I k = o.2.2.2.0
  counted-in true o P k = o.2.2.2.2.0
  counted-in true o F k = o.2.2.2.2.2.0
  counted-in false o «V» k = absurd k
  counted-in false o B k = o.0
  counted-in false o W k = o.2.0
  counted-in false o I k = o.2.2.0
  counted-in false o P k = absurd k
  counted-in false o F k = o.2.2.2.0

  entries-in : (h : Bool) → SectionsInOrder (sections h) nothing → (s : Section) → Called h s
      → EntriesInOrder s (read_before h s) (es s)
  entries-in true o «V» k = o.1
  entries-in true o B k = o.2.1
  entries-in true o W k = o.2.2.1
  entries-in true o I k = o.2.2.2.1
  entries-in true o P k = o.2.2.2.2.1
  entries-in true o F k = o.2.2.2.2.2.1
  entries-in false o «V» k = absurd k
  entries-in false o B k = o.1
  entries-in false o W k = o.2.1
  entries-in false o I k = o.2.2.1
  entries-in false o P k = absurd k
  entries-in false o F k = o.2.2.2.1

  -- a sheet opens with V exactly if it has heights
  opens : (h : Bool) → opening (sheet_of h es) ≡ h
  opens true = refl
  opens false = refl

  pub sheet-in-order : (h : Bool) (e : Carried) → read_lines (sheet_of h es) ≡ Accepted e → SheetInOrder h
  unfolding read_lines
  sheet-in-order h e a =
      let o = sections-in-order (sections h) nothing e 1 (rw (opens h) at a) in
      record { counted = counted-in h o; entries = entries-in h o }

  -- the sections behind tell one nothing
  behind-tell : (h : Bool) (s : Section) → Called h s → Apart s → (x : List Field)
      → line_fault (Entry s) (before (read_before h s)) x ≡ line_fault (Entry s) (before (said_by h)) x
  unfolding line_fault
  behind-tell h «V» k a x = refl
  behind-tell true B k a x = refl
  behind-tell false B k a x = refl
  behind-tell true W k a x = refl
  behind-tell false W k a x = refl
  behind-tell h I k a x = refl
  behind-tell h P k a x = absurd a
  behind-tell true F k a x = refl
  behind-tell false F k a x = refl

  -- so each entry is in order by all that is said
  abbrev pub AllInOrder : Bool → Section → Type 0
  AllInOrder h s = Every (λ x. line_fault (Entry s) (before (said_by h)) x ≡ 0) (es s)

  pub in-order-all : {h : Bool} → SheetInOrder h → (s : Section) → Called h s → Apart s → AllInOrder h s
  in-order-all {h} o s k a =
      every-by (λ x e. sym (behind-tell h s k a x) ∙ e) (es s)
      (entries-every s a (es s) (read_before h s) (o.entries s k))

  pub all-in-order : (h : Bool) (s : Section) → Called h s → Apart s → AllInOrder h s
      → EntriesInOrder s (read_before h s) (es s)
  all-in-order h s k a all =
      every-entry s a (es s) (read_before h s) (every-by (λ x e. behind-tell h s k a x ∙ e) (es s) all)

-- ---- lines that are accepted are some sections

abbrev first : List (List Field) → (ℕ → List (List Field)) → ℕ → List (List Field)
first x f zero = x
first x f (suc i) = f i

-- sections with the entries that f numbers
abbrev numbered : (ℕ → List (List Field)) → List Section → List (List Field)
numbered f [] = []
numbered f (s ∷ ss) = section_of s (f 0) ++ numbered (λ i. f (suc i)) ss

sections-there : (ss : List Section) (c e : Carried) (line : ℕ) (xs : List (List Field))
    → walk (map Count ss) c line xs ≡ Accepted e
    → (f : ℕ → List (List Field)) × (xs ≡ numbered f ss)
sections-there [] c e line xs a = (λ i. [], accepted-end c e line xs a)
sections-there (s ∷ ss) c e line xs a =
    let (t, b) = section-begun s (map Count ss) c line e xs a in
    let (f, q) = sections-there ss (learn_all s t.front c) e (line + 1 + length t.front) t.rest b in
    (first t.front f, t.is ∙ ap (λ (l : List (List Field)). section_of s t.front ++ l) q)

sheet-there : (xs : List (List Field)) (e : Carried) → read_lines xs ≡ Accepted e
    → (es : Section → List (List Field)) × (xs ≡ sheet_of (opening xs) es)
unfolding read_lines
sheet-there xs e a =
    let (f, q) = sections-there (sections (opening xs)) nothing e 1 xs a in
    (λ s. f (earlier (opening xs) s), q ∙ by-section (opening xs) f)
  where
    by-section : (h : Bool) (f : ℕ → List (List Field)) → numbered f (sections h) ≡ sheet_of h (λ s. f (earlier h s))
    by-section true f = refl
    by-section false f = refl

-- in order, and read as what their entries say
pub record AcceptedSheet (xs : List (List Field)) (c : Carried) : Type 0 where
  pub heights : Bool
  pub entries : Section → List (List Field)
  pub is : xs ≡ sheet_of heights entries
  pub in_order : SheetInOrder entries heights
  pub said : c ≡ said_by entries heights

accepted-same : {c d : Carried} → Accepted c ≡ Accepted d → c ≡ d
accepted-same e = cc

pub sheet-said : (es : Section → List (List Field)) (h : Bool) (c : Carried) → read_lines (sheet_of h es) ≡ Accepted c
    → c ≡ said_by es h
sheet-said es h c a = accepted-same (sym a ∙ sheet-accepted es h (sheet-in-order es h c a))

pub accepted-sheet : (xs : List (List Field)) (c : Carried) → read_lines xs ≡ Accepted c → AcceptedSheet xs c
accepted-sheet xs c a =
    let (es, e) = sheet-there xs c a in
    let h = opening xs in
    let b = subst (λ (l : List (List Field)). read_lines l ≡ Accepted c) e a in
    record { heights = h; entries = es; is = e; in_order = sheet-in-order es h c b; said = sheet-said es h c b }
