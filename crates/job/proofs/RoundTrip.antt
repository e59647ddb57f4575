-- Lines that are accepted are the lines of what was read, and what was written is what is read.
use mathlib.Core.Path.{◌≡◌, refl, ap, ap₂, ◌∙◌, sym}
use mathlib.Core.Bool.{Bool, true, false}
use mathlib.Core.List.{List, [], ◌∷◌, ◌++◌, map}
use native.Mathlib.Omega.{arith}
use lib.IntN.{pos}
use lib.ListN.{length, get_or}
use Rattle.whole.specs.Lists.{Every}
use Rattle.whole.proofs.Lists.{every-by, every_map, every-at, map_back, only_one}
use Rattle.field.specs.declared.Field.{Field}
use Rattle.rules.specs.declared.FieldForm.{FieldForm}
use Rattle.rules.specs.declared.Section.{Section}
use Rattle.rules.specs.declared.Section.TheVariants.{«V», B, W, I, P, F}
use Rattle.rules.specs.declared.Kind.TheVariants.{Entry}
use Rattle.entry.specs.declared.Face.{Face}
use Rattle.job.specs.declared.Job.{Job}
use Rattle.job.specs.Carried.{Carried, carried}
use Rattle.job.specs.InOrder.{Limited}
use Rattle.building.specs.Year.{last_year, has_heights}
use Rattle.entry.specs.Says.{year_of, building_of, wind_of, internal_of, step_of, face_of, carried_face}
use Rattle.rules.specs.Form.{number_forms}
use Rattle.rules.specs.Sections.{sections, forms}
use Rattle.entry_written.specs.Fields.{year_fields, building_fields, wind_fields, internal_fields, step_fields}
use Rattle.entry_written.specs.Fields.{face_fields}
use Rattle.job.specs.Lines.{entries_of, section_of, sections_of, sheet_of, lines_of}
use Rattle.job.specs.Walk.{Accepted, read_lines, judged}
use Rattle.rules.proofs.Form.{AllFormed}
use Rattle.rules.proofs.Line.{in_order}
use Rattle.job.proofs.Walk.{entries-formed}
use Rattle.job.proofs.Years.{between, later-heights, OfItsYear, carried-year, faces-kept}
use Rattle.job.proofs.Sheet.{Called, said_by, read_before, SheetInOrder, in-order-all, sheet-in-order, sheet-said}
use Rattle.job.proofs.Sheet.{accepted-sheet}
use Rattle.job.proofs.Lines.{year-again, building-again, wind-again, internal-again, step-again, face-again}
use Rattle.job.proofs.Lines.{year-back, building-back, wind-back, internal-back, step_back, face-back}

-- sheets with the same entries in the sections that they have
sections-alike : (es fs : Section → List (List Field)) (ss : List Section) → Every (λ s. es s ≡ fs s) ss
    → sections_of es ss ≡ sections_of fs ss
sections-alike es fs [] e = refl
sections-alike es fs (s ∷ ss) e = ap₂ ◌++◌ (ap (section_of s) e.0) (sections-alike es fs ss e.1)

sheets-alike : (es fs : Section → List (List Field)) (h : Bool) → ((s : Section) → Called h s → es s ≡ fs s)
    → sheet_of h es ≡ sheet_of h fs
sheets-alike es fs true e =
    sections-alike es fs (sections true)
    (e «V» tt, (e B tt, (e W tt, (e I tt, (e P tt, (e F tt, tt))))))
sheets-alike es fs false e =
    sections-alike es fs (sections false) (e B tt, (e W tt, (e I tt, (e F tt, tt))))

module _ (es : Section → List (List Field)) where
  pub said-year : SheetInOrder es true → Limited (pos 2) (pos last_year) (said_by es true).year
  said-year o =
      let z = every-at _ (es «V») [] 0 (omega (arith, (o.counted «V» tt).low)) (in-order-all es o «V» tt tt) in
      between (pos 2) (pos last_year) _ (in_order (Entry «V») _ _ z).none.0

  -- the year that is said has heights exactly if the sheet has them
  said-heights : (h : Bool) → SheetInOrder es h → has_heights (said_by es h).year ≡ h
  said-heights false o = refl
  said-heights true o = later-heights (said_by es true).year (said-year o)

  faces-read : (h : Bool) → has_heights (read_before es h F).year ≡ has_heights (said_by es h).year
  faces-read true = refl
  faces-read false = refl

  -- the entries are in form
  pub says : (h : Bool) → SheetInOrder es h → (s : Section) → Called h s
      → Every (AllFormed (forms h (Entry s))) (es s)
  says h o «V» k = entries-formed «V» (es «V») (read_before es h «V») (o.entries «V» k)
  says h o B k = entries-formed B (es B) (read_before es h B) (o.entries B k)
  says h o W k = entries-formed W (es W) (read_before es h W) (o.entries W k)
  says h o I k = entries-formed I (es I) (read_before es h I) (o.entries I k)
  says h o P k = entries-formed P (es P) (read_before es h P) (o.entries P k)
  says h o F k =
      rw (faces-read h ∙ said-heights h o) at (entries-formed F (es F) (read_before es h F) (o.entries F k))

  -- ---- entries, read, and written again

  module _ {A : Type 0} (h : Bool) (o : SheetInOrder es h) (s : Section) (k : Called h s) (fields : A → List Field)
      (of : List Field → A) (again : (x : List Field) → AllFormed (forms h (Entry s)) x → fields (of x) ≡ x) where
    all-again : map fields (map of (es s)) ≡ es s
    all-again = map_back of fields (es s) (every-by again (es s) (says h o s k))

    one_again : length (es s) ≡ 1 → fields (of (get_or (es s) 0 [])) ∷ [] ≡ es s
    one_again one =
        ap (λ (x : List Field). x ∷ [])
        (again _ (every-at (AllFormed (forms h (Entry s))) (es s) [] 0 (omega arith) (says h o s k)))
        ∙ sym (only_one (es s) [] one)

  entries-again : (h : Bool) → SheetInOrder es h → (s : Section) → Called h s → entries_of (said_by es h) s ≡ es s
  entries-again true o «V» k =
      one_again true o «V» k year_fields year_of (λ x a. year-again a)
      (omega (arith, (o.counted «V» tt).low, (o.counted «V» tt).high))
  entries-again false o «V» k = absurd k
  entries-again h o B k =
      one_again h o B k building_fields building_of (λ x a. building-again a)
      (omega (arith, (o.counted B tt).low, (o.counted B tt).high))
  entries-again h o W k = all-again h o W k wind_fields wind_of (λ x a. wind-again a)
  entries-again h o I k = all-again h o I k internal_fields internal_of (λ x a. internal-again a)
  entries-again true o P k = all-again true o P k step_fields step_of (λ x a. step-again a)
  entries-again false o P k = absurd k
  entries-again h o F k =
      rw (said-heights h o) (all-again h o F k (face_fields h) (face_of h) (λ x a. face-again h a))

  lines-again : (h : Bool) → SheetInOrder es h → lines_of (said_by es h) ≡ sheet_of h es
  unfolding lines_of
  lines-again h o =
      ap (λ (t : Bool). sheet_of t (entries_of (said_by es h))) (said-heights h o)
      ∙ sheets-alike (entries_of (said_by es h)) es h (entries-again h o)

pub accepted-lines : (xs : List (List Field)) (c : Carried) → read_lines xs ≡ Accepted c → lines_of c ≡ xs
accepted-lines xs c a =
    let t = accepted-sheet xs c a in
    ap lines_of t.said ∙ lines-again t.entries t.heights t.in_order ∙ sym t.is

-- ---- values, written, and read again

pub all_back : {A : Type 0} (ws : List FieldForm) (fields : A → List Field) (of : List Field → A)
    → ((v : A) → AllFormed ws (fields v) → of (fields v) ≡ v)
    → (l : List A) → Every (AllFormed ws) (map fields l) → map of (map fields l) ≡ l
all_back ws fields of back l a =
    map_back fields of l (every-by back l (every_map (AllFormed ws) fields l a))

-- faces without their heights, where the sheet has none
pub faces-back : (h : Bool) (l : List Face) → Every (AllFormed (forms h (Entry F))) (map (face_fields h) l)
    → map (face_of h) (map (face_fields h) l) ≡ map (carried_face h) l
faces-back h [] a = refl
faces-back h (f ∷ l) a = ap₂ ◌∷◌ (face-back h f a.0) (faces-back h l a.1)

-- d carries what its year has, and each of its entries can be written
pub record Writable (d : Carried) (h : Bool) : Type 0 where
  pub of-year : OfItsYear d
  pub heights : has_heights d.year ≡ h
  pub formed : (s : Section) → Called h s → Every (AllFormed (forms h (Entry s))) (entries_of d s)

module _ (d : Carried) where
  pub year-said : (h : Bool) → Writable d h → (said_by (entries_of d) h).year ≡ d.year
  year-said true w = year-back d.year (w.formed «V» tt).0
  year-said false w = sym (w.of-year w.heights).year

  profile-said : (h : Bool) → Writable d h → (said_by (entries_of d) h).profile ≡ d.profile
  profile-said true w = all_back (number_forms 2) step_fields step_of step_back d.profile (w.formed P tt)
  profile-said false w = sym (w.of-year w.heights).profile

  faces-said : (h : Bool) → Writable d h → (said_by (entries_of d) h).faces ≡ d.faces
  faces-said h w =
      let q = w.heights in
      let formed = rw q at (w.formed F tt) in
      rw (year-said h w, q)
      (faces-back h d.faces formed ∙ faces-kept h d.faces (λ e. (w.of-year (q ∙ e)).heights))

  pub said-back : (h : Bool) → Writable d h → said_by (entries_of d) h ≡ d
  said-back h w =
      λ i. record {
        year = year-said h w i;
        building = building-back d.building (w.formed B tt).0 i;
        winds = all_back (number_forms 2) wind_fields wind_of wind-back d.winds (w.formed W tt) i;
        internals =
            all_back (number_forms 1) internal_fields internal_of internal-back d.internals (w.formed I tt) i;
        profile = profile-said h w i;
        faces = faces-said h w i;
      }

pub lines-read : (c d : Carried) → OfItsYear d → read_lines (lines_of d) ≡ Accepted c → c ≡ d
unfolding lines_of
lines-read c d y a =
    let h = has_heights d.year in
    let o = sheet-in-order (entries_of d) h c a in
    sheet-said (entries_of d) h c a
    ∙ said-back d h (record { of-year = y; heights = refl; formed = says (entries_of d) h o })

-- an accepted record is read as what it carries
pub judged-carried : (j : Job) (c : Carried) → judged j ≡ Accepted c → c ≡ carried j
unfolding judged
judged-carried j c a = lines-read c (carried j) (carried-year j) a
