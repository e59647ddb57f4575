-- A record judged section by section: the first section that is refused by itself answers for the whole sheet.
use Prim.Native.Nat.{ℕ, zero, suc, ◌+◌, ◌*◌, ◌≤◌, ◌<◌}
use mathlib.Core.Path.{◌≡◌, refl, ap, ap₂, ◌∙◌, sym, subst}
use mathlib.Core.List.{List, [], ◌∷◌, ◌++◌, map, append-nil}
use mathlib.Core.Bool.{Bool, true, false, cond}
use native.Mathlib.Numerals.{add-one}
use native.Mathlib.Omega.{arith}
use lib.Dec.{eqb}
use lib.IntN.{ℤ}
use lib.ListN.{length, take, drop, drop_of_length-le}
use lib.Seq.{take-suc, drop-cons}
use borrow.Author.Tests.{eqb-true, eqb-false}
use Rattle.whole.specs.Lists.{Every}
use Rattle.whole.proofs.Tests.{by-test}
use Rattle.verdict.specs.declared.Verdict.{Verdict}
use Rattle.verdict.specs.Verdict.{accepted, Refuses}
use Rattle.field.specs.declared.Field.{Field}
use Rattle.rules.specs.declared.Section.{Section}
use Rattle.rules.specs.declared.Section.TheVariants.{«V», B, F}
use Rattle.rules.specs.declared.Kind.{Kind}
use Rattle.rules.specs.declared.Kind.TheVariants.{Count, Entry}
use Rattle.rules.specs.declared.Before.{Before}
use Rattle.building.specs.Fault.{first}
use Rattle.building.specs.Building.{faults}
use Rattle.rules.specs.Form.{in_form, number_forms}
use Rattle.rules.specs.Sections.{sections, section_at, forms, forms_by, line_fault}
use Rattle.rules.proofs.Form.{AllFormed}
use Rattle.building.specs.Year.{has_heights}
use Rattle.entry.specs.Says.{building_of, wind_of, internal_of, step_of, face_of}
use Rattle.entry_written.specs.Fields.{wind_fields, internal_fields, step_fields, face_fields}
use Rattle.job.specs.declared.Job.{Job}
use Rattle.job.specs.Carried.{Carried, nothing, with_year, with_building, with_winds, with_internals, with_profile}
use Rattle.job.specs.Carried.{with_faces, lowest_of, highest_of, before, carried, carried_in, most_faces}
use Rattle.job.specs.Judging.{Alike, EntriesAs, JudgesAs}
use Rattle.job.specs.Lines.{entries_of, section_of, sections_of, line_behind, sheet_of, lines_of}
use Rattle.job.specs.Walk.{entries, calls, learn, Reading, verdict, walk, opening, sheet, read_lines, judged}
use Rattle.job.proofs.FirstFault.{walk-answers}
use Rattle.job.proofs.Walk.{walk-on, walk_refused, EntriesInOrder, entries-formed}
use Rattle.job.proofs.Sections.{Counted, count_line, section-in-order}
use Rattle.job.proofs.Sheet.{gained, section-passed}
use Rattle.job.proofs.Lines.{year-back, building-back, wind-back, internal-back, step_back}
use Rattle.job.proofs.Years.{OfItsYear, carried-year, faces-kept}
use Rattle.job.proofs.RoundTrip.{all_back, faces-back}
use Rattle.job.proofs.Verdicts.{accepted-by}
use Rattle.job.proofs.Alone.{alone}
use Rattle.job.proofs.Room.{most-roomed}

-- ---- refused by itself, a section is refused the same where more follows

-- one line, from what holds of those after it
module _ (k : Kind) (ks ls : List Kind) (c : Carried) (line : ℕ) (x : List Field) (xs ys : List (List Field)) where
  line_refused : (Refuses (verdict (walk (calls k x ++ ls) (learn k x c) (line + 1) xs))
      → verdict (walk (calls k x ++ ks) (learn k x c) (line + 1) ys) ≡ verdict
      (walk (calls k x ++ ls) (learn k x c) (line + 1) xs))
      → Refuses (verdict (walk (k ∷ ls) c line (x ∷ xs)))
      → verdict (walk (k ∷ ks) c line (x ∷ ys)) ≡ verdict (walk (k ∷ ls) c line (x ∷ xs))
  line_refused on z =
      by-test (eqb (line_fault k (before c) x) 0)
      (λ t.
      let q = eqb-true _ _ t in
      let a = walk-on k ls c line x xs q in
      ap verdict (walk-on k ks c line x ys q)
      ∙ on (λ y. z (ap (λ (r : Reading). (verdict r).number) a ∙ y))
      ∙ sym (ap verdict a))
      (λ t.
      let q = eqb-false _ _ t in
      ap verdict (walk_refused k ks c line x ys q ∙ sym (walk_refused k ls c line x xs q)))

module _ (s : Section) (ks : List Kind) where
  entries-refused : (xs rest : List (List Field)) (c : Carried) (line : ℕ)
      → Refuses (verdict (walk (entries s (length xs) ++ []) c line xs))
      → verdict (walk (entries s (length xs) ++ ks) c line (xs ++ rest)) ≡ verdict
      (walk (entries s (length xs) ++ []) c line xs)
  unfolding walk
  entries-refused [] rest c line z = absurd (z refl)
  entries-refused (x ∷ xs) rest c line z =
      line_refused (Entry s) (entries s (length xs) ++ ks) (entries s (length xs) ++ []) c line x xs (xs ++ rest)
      (entries-refused xs rest (learn (Entry s) x c) (line + 1)) z

  alone-refused : (xs rest : List (List Field)) (c : Carried) (line : ℕ) → Refuses (alone s c line xs)
      → verdict (walk (Count s ∷ ks) c line (section_of s xs ++ rest)) ≡ alone s c line xs
  alone-refused xs rest c line z =
      line_refused (Count s) ks [] c line (count_line s (length xs)) xs (xs ++ rest)
      (entries-refused xs rest c (line + 1)) z

-- ---- not refused, it is in order

alone-in-order : (s : Section) (c : Carried) (line : ℕ) (xs : List (List Field)) → (alone s c line xs).number ≡ 0
    → Counted c.year s (length xs) × EntriesInOrder s c xs
alone-in-order s c line xs z =
    let a = accepted-by (walk-answers (Count s ∷ []) c line (section_of s xs)) z in
    section-in-order s [] c line a.0 xs [] (rw append-nil a.1)

-- ---- what the first sections carry, and one more

behind-one : (es : Section → List (List Field)) (ss : List Section) (s : Section)
    → line_behind es (ss ++ (s ∷ [])) ≡ line_behind es ss + 1 + length (es s)
behind-one es [] s = omega arith
behind-one es (t ∷ ss) s = omega (arith, behind-one es ss s)

module _ (c : Carried) (y : OfItsYear c) where
  winds-back : Every (AllFormed (number_forms 2)) (map wind_fields c.winds)
      → map wind_of (map wind_fields c.winds) ≡ c.winds
  winds-back a = all_back (number_forms 2) wind_fields wind_of wind-back c.winds a

  internals-back : Every (AllFormed (number_forms 1)) (map internal_fields c.internals)
      → map internal_of (map internal_fields c.internals) ≡ c.internals
  internals-back a = all_back (number_forms 1) internal_fields internal_of internal-back c.internals a

  section-carried : (h : Bool) → has_heights c.year ≡ h → (i : ℕ) → i < length (sections h)
      → Every (AllFormed (forms_by (before (carried_in (take i (sections h)) c)) (Entry (section_at h i))))
      (entries_of c (section_at h i))
      → gained (section_at h i) (entries_of c (section_at h i)) (carried_in (take i (sections h)) c) ≡ carried_in
      (take (suc i) (sections h)) c
  section-carried true e zero h a = λ k. with_year (year-back c.year a.0 k) nothing
  section-carried true e (suc zero) h a =
      λ k. with_year c.year (with_building (building-back c.building a.0 k) nothing)
  section-carried true e (suc (suc zero)) h a =
      λ k. with_year c.year (with_building c.building (with_winds (winds-back a k) nothing))
  section-carried true e (suc (suc (suc zero))) h a =
      λ k. with_year c.year
      (with_building c.building (with_winds c.winds (with_internals (internals-back a k) nothing)))
  section-carried true e (suc (suc (suc (suc zero)))) h a =
      λ k. with_year c.year (with_building c.building (with_winds c.winds (with_internals c.internals
      (with_profile (all_back (number_forms 2) step_fields step_of step_back c.profile a k) nothing))))
  section-carried true e (suc (suc (suc (suc (suc zero))))) h a =
      λ k. with_year c.year (with_building c.building (with_winds c.winds (with_internals c.internals
      (with_profile c.profile (with_faces (said k) nothing)))))
    where
      said : map (face_of (has_heights c.year)) (map (face_fields (has_heights c.year)) c.faces) ≡ c.faces
      said =
          faces-back (has_heights c.year) c.faces a
          ∙ faces-kept (has_heights c.year) c.faces (λ q. (y q).heights)
  section-carried true e (suc (suc (suc (suc (suc (suc i)))))) h a = absurd (omega arith)
  section-carried false e zero h a = λ k. with_building (building-back c.building a.0 k) nothing
  section-carried false e (suc zero) h a = λ k. with_building c.building (with_winds (winds-back a k) nothing)
  section-carried false e (suc (suc zero)) h a =
      λ k. with_building c.building (with_winds c.winds (with_internals (internals-back a k) nothing))
  section-carried false e (suc (suc (suc zero))) h a =
      λ k. with_building c.building (with_winds c.winds (with_internals c.internals (with_faces (said k) nothing)))
    where
      formed : Every (AllFormed (forms false (Entry F))) (map (face_fields false) c.faces)
      formed = rw e at a

      said : map (face_of false) (map (face_fields (has_heights c.year)) c.faces) ≡ c.faces
      said = rw e (faces-back false c.faces formed ∙ faces-kept false c.faces (λ q. (y e).heights))
  section-carried false e (suc (suc (suc (suc i)))) h a = absurd (omega arith)

-- ---- the sections of a record

module _ (j : Job) where
  abbrev pub es : Section → List (List Field)
  es = entries_of (carried j)

  abbrev pub heights : Bool
  heights = has_heights j.year

  abbrev pub ss : List Section
  ss = sections heights

  abbrev pub sofar : ℕ → Carried
  sofar i = carried_in (take i ss) (carried j)

  -- its lines open with V exactly if it has heights
  opens : opening (lines_of (carried j)) ≡ heights
  unfolding lines_of carried
  opens = go heights
    where
      go : (h : Bool) → opening (sheet_of h (entries_of (carried j))) ≡ h
      go true = refl
      go false = refl

  pub year-is : has_heights (carried j).year ≡ heights
  unfolding carried
  year-is = refl

  -- what the sections before one carry judges its count and its entries as all that is carried does
  module _ where
    abbrev b : Before
    b = before (carried j)

    building-alike : (d : Carried) → d.year ≡ (carried j).year → Alike (Entry B) b d
    unfolding line_fault
    building-alike d e x =
        ap (λ (y : ℤ). cond (in_form (number_forms 6) x) (first (faults y (building_of x))) 1) e

    -- without heights, what is read before the faces
    low-before : has_heights (carried j).year ≡ false → before (carried_in (take 3 (sections false)) (carried j)) ≡ b
    low-before e =
        let o = carried-year j e in
        λ i. record {
          year = sym o.year i;
          building = (carried j).building;
          lowest = lowest_of (sym o.profile i);
          highest = highest_of (sym o.profile i);
        }

    counts-as : (h : Bool) → has_heights (carried j).year ≡ h → (i : ℕ) → i < length (sections h)
        → Alike (Count (section_at h i)) b (carried_in (take i (sections h)) (carried j))
    unfolding line_fault
    counts-as true e zero h = λ x. refl
    counts-as true e (suc zero) h = λ x. refl
    counts-as true e (suc (suc zero)) h = λ x. refl
    counts-as true e (suc (suc (suc zero))) h = λ x. refl
    counts-as true e (suc (suc (suc (suc zero)))) h = λ x. refl
    counts-as true e (suc (suc (suc (suc (suc zero))))) h = λ x. refl
    counts-as true e (suc (suc (suc (suc (suc (suc i)))))) h = absurd (omega arith)
    counts-as false e zero h = λ x. refl
    counts-as false e (suc zero) h = λ x. refl
    counts-as false e (suc (suc zero)) h = λ x. refl
    counts-as false e (suc (suc (suc zero))) h = λ x. ap (λ (d : Before). line_fault (Count F) d x) (low-before e)
    counts-as false e (suc (suc (suc (suc i)))) h = absurd (omega arith)

    entries-as : (h : Bool) → has_heights (carried j).year ≡ h → (i : ℕ) → i < length (sections h)
        → EntriesAs (section_at h i) b (carried_in (take i (sections h)) (carried j))
    unfolding line_fault
    entries-as true e zero h = λ x. refl
    entries-as true e (suc zero) h = building-alike (carried_in (take 1 (sections true)) (carried j)) refl
    entries-as true e (suc (suc zero)) h = λ x. refl
    entries-as true e (suc (suc (suc zero))) h = λ x. refl
    entries-as true e (suc (suc (suc (suc zero)))) h = refl
    entries-as true e (suc (suc (suc (suc (suc zero))))) h = λ x. refl
    entries-as true e (suc (suc (suc (suc (suc (suc i)))))) h = absurd (omega arith)
    entries-as false e zero h = building-alike nothing (sym (carried-year j e).year)
    entries-as false e (suc zero) h = λ x. refl
    entries-as false e (suc (suc zero)) h = λ x. refl
    entries-as false e (suc (suc (suc zero))) h = λ x. ap (λ (d : Before). line_fault (Entry F) d x) (low-before e)
    entries-as false e (suc (suc (suc (suc i)))) h = absurd (omega arith)

    pub judges-as : (h : Bool) → has_heights (carried j).year ≡ h → (i : ℕ) → i < length (sections h)
        → JudgesAs (section_at h i) b (carried_in (take i (sections h)) (carried j))
    judges-as h e i few = record { count = counts-as h e i few; entries = entries-as h e i few }

  -- the walk has come to the section behind the first i, whose count stands on this line
  pub record Reached (i line : ℕ) : Type 0 where
    pub stands : line ≡ line_behind es (take i ss)
    pub rest : walk (map Count (drop i ss)) (sofar i) line (sections_of es (drop i ss)) ≡ judged j
    -- no section has more lines than a record has room for faces, and one
    pub lines : line ≤ (most_faces + 1) * i + 1

  pub reached-first : Reached 0 1
  unfolding judged read_lines lines_of carried
  reached-first =
      record {
        stands = refl;
        rest = ap (λ (h : Bool). walk (sheet h) nothing 1 (lines_of (carried j))) (sym opens);
        lines = omega arith;
      }

  -- v is its verdict by itself
  module _ {i line : ℕ} (r : Reached i line) (few : i < length ss) {v : Verdict}
      (e : v ≡ alone (section_at heights i) (sofar i) line (es (section_at heights i))) where
    abbrev s : Section
    s = section_at heights i

    abbrev later : List Section
    later = drop (suc i) ss

    here : walk (map Count (s ∷ later)) (sofar i) line (sections_of es (s ∷ later)) ≡ judged j
    here = rw (drop-cons ss i «V» few) at r.rest

    pub stops : Refuses v → v ≡ verdict (judged j)
    stops z =
        e
        ∙ sym (alone-refused s (map Count later) (es s) (sections_of es later) (sofar i) line (rw e at z))
        ∙ ap verdict here

    -- n is the number of its entries
    module _ (z : v.number ≡ 0) {n : ℕ} (many : n ≡ length (es s)) where
      in_order : Counted (sofar i).year s (length (es s)) × EntriesInOrder s (sofar i) (es s)
      in_order = alone-in-order s (sofar i) line (es s) (rw e at z)

      pub few-entries : n ≤ most_faces
      few-entries = omega (arith, in_order.0.high, most-roomed (sofar i).year s)

      pub goes_on : Reached (i + 1) (line + (1 + n))
      goes_on =
          let formed = entries-formed s (es s) (sofar i) in_order.1 in
          let l : line + 1 + length (es s) ≡ line + (1 + n) = omega arith in
          subst (λ (h : ℕ). Reached h (line + (1 + n))) (sym (add-one i)) (record {
            stands =
                sym l ∙ ap (λ (h : ℕ). h + 1 + length (es s)) r.stands
                ∙ sym (ap (line_behind es) (take-suc ss i «V» few) ∙ behind-one es (take i ss) s);
            rest =
                ap₂ (λ (c : Carried) (h : ℕ). walk (map Count later) c h (sections_of es later))
                (sym (section-carried (carried j) (carried-year j) heights year-is i few formed)) (sym l)
                ∙ sym (section-passed es s later (sofar i) line in_order.0 in_order.1)
                ∙ here;
            lines = omega (arith, r.lines, few-entries);
          })

  pub ends : {i line : ℕ} → Reached i line → i ≡ length ss → accepted ≡ verdict (judged j)
  unfolding walk
  ends {i} {line} r e =
      ap verdict
      (rw (drop_of_length-le ss {i = i} (omega arith)) at r.rest)
