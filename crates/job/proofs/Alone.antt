-- One section of a record judged by itself, line by line as the code does it.
use Prim.Native.Nat.{ℕ, zero, suc, ◌+◌, ◌≤◌, ◌<◌}
use mathlib.Core.Path.{◌≡◌, refl, ap, ◌∙◌, sym, subst}
use mathlib.Core.List.{List, [], ◌∷◌, ◌++◌, map, append-nil}
use native.Mathlib.Numerals.{add-one}
use native.Mathlib.Omega.{arith}
use mathlib.Core.Bool.{Bool, true, false, cond}
use lib.IntN.{pos, neg_ℤ}
use lib.ListN.{length, get_or, take, length-map}
use lib.Seq.{take_all}
use Rattle.whole.specs.Lists.{first_of}
use Rattle.whole.proofs.Lists.{map-take, get_d_map, first_of-length, first_of-take, first_of-fewer, first_of-get_d}
use Rattle.verdict.specs.declared.Verdict.{Verdict}
use Rattle.verdict.specs.Verdict.{accepted, refusal}
use Rattle.field.specs.declared.Field.{Field}
use Rattle.rules.specs.declared.Section.{Section}
use Rattle.rules.specs.declared.Section.TheVariants.{«V», B, W, I, P, F}
use Rattle.rules.specs.declared.Kind.TheVariants.{Count, Entry}
use Rattle.job.specs.declared.Job.{Job}
use Rattle.job.specs.Carried.{Carried, no_wind, no_step, no_face, highest_of, before, carried}
use Rattle.job.specs.Judging.{Alike}
use Rattle.rules.specs.declared.Before.{Before}
use Rattle.entry.specs.declared.Face.{Face}
use Rattle.building.specs.Year.{has_heights}
use Rattle.entry.specs.Says.{carried_face}
use Rattle.rules.specs.Sections.{sections, line_fault}
use Rattle.entry_written.specs.Fields.{year_fields, building_fields, wind_fields, internal_fields, step_fields}
use Rattle.entry_written.specs.Fields.{face_fields}
use Rattle.job.specs.Lines.{entries_of, section_of}
use Rattle.job.specs.Walk.{verdict, walk}
use Rattle.job.proofs.Walk.{learn_all, EntriesInOrder, Apart, entries_next, entries-tell}
use Rattle.job.proofs.InOrder.{learned-height}
use Rattle.job.proofs.Sections.{Counted, count_line, count-counted, count-refused, section-refused}
use Rattle.job.proofs.Sections.{section-walk}

-- ---- the entries of a record

-- entry i of a section
abbrev pub entry_of : Job → Section → ℕ → List Field
entry_of j «V» i = year_fields j.year
entry_of j B i = building_fields j.building
entry_of j W i = wind_fields (get_or j.winds.entry i no_wind)
entry_of j I i = internal_fields (get_or j.internals.entry i (pos 0))
entry_of j P i = step_fields (get_or j.profile.entry i no_step)
entry_of j F i = face_fields (has_heights j.year) (get_or j.faces.entry i no_face)

module _ {A : Type 0} (d : A) (f : A → List Field) (n : ℕ) (l : List A) where
  entries-length : length (map f (first_of d n l)) ≡ n
  entries-length = length-map (first_of d n l) f ∙ first_of-length d n l

  entries_at : (i : ℕ) → i < length (map f (first_of d n l)) → get_or (map f (first_of d n l)) i [] ≡ f (get_or l i d)
  entries_at i h =
      get_d_map f (first_of d n l) i d [] (omega (arith, entries-length, first_of-length d n l))
      ∙ ap f (first_of-get_d d n i l (omega (arith, entries-length)))

module _ (j : Job) where
  pub winds-counted : length (entries_of (carried j) W) ≡ j.winds.count
  unfolding carried
  winds-counted = entries-length no_wind wind_fields j.winds.count j.winds.entry

  pub internals-counted : length (entries_of (carried j) I) ≡ j.internals.count
  unfolding carried
  internals-counted = entries-length (pos 0) internal_fields j.internals.count j.internals.entry

  -- the height of a face that the sheet does not carry is not written
  faces-written : (h : Bool) (l : List Face) → map (face_fields h) (map (carried_face h) l) ≡ map (face_fields h) l
  faces-written h [] = refl
  faces-written true (f ∷ l) = ap (λ (xs : List (List Field)). face_fields true f ∷ xs) (faces-written true l)
  faces-written false (f ∷ l) = ap (λ (xs : List (List Field)). face_fields false f ∷ xs) (faces-written false l)

  faces-lines : entries_of (carried j) F
      ≡ map (face_fields (has_heights j.year)) (first_of no_face j.faces.count j.faces.entry)
  unfolding carried
  faces-lines = faces-written (has_heights j.year) (first_of no_face j.faces.count j.faces.entry)

  pub faces-counted : length (entries_of (carried j) F) ≡ j.faces.count
  faces-counted =
      ap length faces-lines ∙ entries-length no_face (face_fields (has_heights j.year)) j.faces.count
      j.faces.entry

  pub steps-counted : length (entries_of (carried j) P) ≡ cond (has_heights j.year) j.profile.count 0
  unfolding carried
  steps-counted = go (has_heights j.year)
    where
      go : (h : Bool)
          → length (map step_fields (cond h (first_of no_step j.profile.count j.profile.entry) []))
          ≡ cond h j.profile.count 0
      go true = entries-length no_step step_fields j.profile.count j.profile.entry
      go false = refl

  -- the steps that count
  pub steps_first : {n : ℕ} → n ≡ length (entries_of (carried j) P)
      → first_of no_step n j.profile.entry ≡ (carried j).profile
  unfolding carried first_of
  steps_first {n} e = go (has_heights j.year) (e ∙ steps-counted)
    where
      go : (h : Bool) → n ≡ cond h j.profile.count 0
          → first_of no_step n j.profile.entry ≡ cond h (first_of no_step j.profile.count j.profile.entry) []
      go true q = rw q
      go false q = rw q

  step_is : (h : Bool) (i : ℕ) → let l = cond h (first_of no_step j.profile.count j.profile.entry) [] in
      i < length (map step_fields l) → get_or (map step_fields l) i [] ≡ step_fields (get_or j.profile.entry i no_step)
  step_is true i h = entries_at no_step step_fields j.profile.count j.profile.entry i h
  step_is false i h = absurd (omega arith)

  pub entry-is : (s : Section) (i : ℕ) → i < length (entries_of (carried j) s)
      → get_or (entries_of (carried j) s) i [] ≡ entry_of j s i
  unfolding carried
  entry-is «V» zero h = refl
  entry-is «V» (suc i) h = absurd (omega arith)
  entry-is B zero h = refl
  entry-is B (suc i) h = absurd (omega arith)
  entry-is W i h = entries_at no_wind wind_fields j.winds.count j.winds.entry i h
  entry-is I i h = entries_at (pos 0) internal_fields j.internals.count j.internals.entry i h
  entry-is P i h = step_is (has_heights j.year) i h
  entry-is F i h =
      ap (λ (xs : List (List Field)). get_or xs i []) faces-lines
      ∙ entries_at no_face (face_fields (has_heights j.year)) j.faces.count j.faces.entry i
      (rw faces-lines at h)

-- ---- what an entry of a record is judged by

module _ (j : Job) (d : Carried) (i : ℕ) where
  pub entry-judged : (s : Section) (b : Before) → Apart s → Alike (Entry s) b d → i < length (entries_of (carried j) s)
      → line_fault (Entry s) b (entry_of j s i)
      ≡ line_fault (Entry s) (before (learn_all s (take i (entries_of (carried j) s)) d)) (get_or (entries_of
      (carried j) s) i [])
  entry-judged s b a alike h =
      let x = get_or (entries_of (carried j) s) i [] in
      ap (line_fault (Entry s) b) (sym (entry-is j s i h))
      ∙ sym (entries-tell s a (take i (entries_of (carried j) s)) d x ∙ alike x)

  -- a step, by the height of the one before it
  pub step-judged : highest_of d.profile ≡ neg_ℤ (pos 1) → i < length (entries_of (carried j) P)
      → EntriesInOrder P d (take i (entries_of (carried j) P))
      → highest_of (first_of no_step i j.profile.entry)
      ≡ highest_of (learn_all P (take i (entries_of (carried j) P)) d).profile
  step-judged e h o =
      let l = (carried j).profile in
      let n = length (entries_of (carried j) P) in
      let all = steps_first j {n = n} refl in
      let few : length l ≡ n = sym (length-map l step_fields) in
      let first : take i l ≡ first_of no_step i j.profile.entry =
      sym (first_of-take no_step i l (omega arith))
      ∙ ap (first_of no_step i) (sym all) ∙ first_of-fewer no_step i n j.profile.entry (omega arith) in
      ap highest_of (sym first)
      ∙ sym (ap (λ (xs : List (List Field)). highest_of (learn_all P xs d).profile) (map-take step_fields i l)
      ∙ learned-height (take i l) d e (rw (map-take step_fields i l) at o))

-- ---- a section by itself

module _ (s : Section) (c : Carried) (line : ℕ) (xs : List (List Field)) where
  abbrev pub alone : Verdict
  alone = verdict (walk (Count s ∷ []) c line (section_of s xs))

  nothing-behind : alone ≡ verdict (walk (Count s ∷ []) c line (section_of s xs ++ []))
  nothing-behind = rw append-nil

  -- n is the fault of its count
  module _ (n : ℕ) (en : n ≡ line_fault (Count s) (before c) (count_line s (length xs))) where
    pub alone-count : (n ≡ 0 → ⊥) → refusal n line ≡ alone
    alone-count z = sym (nothing-behind ∙ ap verdict (count-refused s [] c line xs [] (λ e. z (en ∙ e))) ∙ rw (← en))

    pub alone-counted : n ≡ 0 → Counted c.year s (length xs)
    alone-counted z = count-counted s (before c) (length xs) (sym en ∙ z)

  -- n is the fault of entry i, where those before it have none
  module _ (w : Counted c.year s (length xs)) (i n : ℕ) (h : i < length xs) (o : EntriesInOrder s c (take i xs))
      (en : n ≡ line_fault (Entry s) (before (learn_all s (take i xs) c)) (get_or xs i [])) where
    pub alone-entry : (n ≡ 0 → ⊥) → refusal n (line + 1 + i) ≡ alone
    alone-entry z =
        sym (nothing-behind ∙ ap verdict (section-refused s [] c line xs [] i w h o (λ e. z (en ∙ e))) ∙ rw (← en))

    pub alone-next : n ≡ 0 → EntriesInOrder s c (take (i + 1) xs)
    alone-next z = rw add-one (entries_next s xs i c h o (sym en ∙ z))

  -- all have none
  pub alone-passed : Counted c.year s (length xs) → (i : ℕ) → length xs ≤ i → EntriesInOrder s c (take i xs)
      → accepted ≡ alone
  unfolding walk
  alone-passed w i h o =
      sym
      (nothing-behind ∙ ap verdict (section-walk s [] c line xs [] w (subst (EntriesInOrder s c) (take_all i xs h) o)))

pub few-sections : (h : Bool) → length (sections h) ≤ 6
few-sections true = omega arith
few-sections false = omega arith
