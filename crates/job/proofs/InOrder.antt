-- Lines are accepted exactly if what they carry is in order.
use Prim.Native.Nat.{ℕ, ◌≤◌}
use mathlib.Core.Path.{◌≡◌, refl, ap, ◌∙◌, sym, subst}
use mathlib.Core.Logic.{◌⊎◌, ⊎_elim, inl, inr}
use mathlib.Core.List.{List, [], ◌∷◌, map}
use mathlib.Core.Bool.{Bool, true, false, cond, not, ◌&&◌, ◌||◌}
use native.Mathlib.Omega.{arith}
use lib.ListN.{length, length-map}
use lib.Dec.{T}
use lib.IntN.{ℤ, pos, neg_ℤ}
use lib.Signed.{◌<ℤ◌}
use borrow.Author.Tests.{le-leb, not-false}
use Rattle.whole.specs.Lists.{Every}
use Rattle.whole.proofs.Lists.{every-by, every-both, map-every, every-at}
use Rattle.whole.proofs.Order.{lt-true, true-lt}
use Rattle.whole.proofs.Parts.{le-by}
use Rattle.whole.proofs.Tests.{by-test, or-true}
use Rattle.field.specs.declared.Field.{Field}
use Rattle.building.specs.Test.{is, one_of, beyond, too_long}
use Rattle.building.specs.Fault.{Fault, first}
use Rattle.building.specs.Building.{faults, building_fault}
use Rattle.building.specs.Places.{A, H, single, wall_directions, knows, wall_place}
use Rattle.building.proofs.Accepted.{within, given-none}
use Rattle.building.proofs.Machine.{is_same}
use Rattle.building.proofs.Places.{among-yes, known-within}
use Rattle.building.proofs.Ranges.{not_beyond, is_within, not-larger, is-small}
use Rattle.rules.specs.declared.Before.{Before}
use Rattle.rules.specs.declared.Section.{Section}
use Rattle.rules.specs.declared.Section.TheVariants.{«V», B, W, I, P, F}
use Rattle.rules.specs.declared.Kind.TheVariants.{Entry}
use Rattle.entry.specs.declared.Wind.{Wind}
use Rattle.entry.specs.declared.Step.{Step}
use Rattle.entry.specs.declared.Face.{Face}
use Rattle.job.specs.Carried.{Carried, nothing, last_height, highest_of, before}
use Rattle.building.specs.Year.{last_year, has_heights}
use Rattle.entry.specs.Says.{both, wind_of, internal_of, step_of, face_of, carried_face}
use Rattle.rules.specs.Faults.{year_faults, wind_faults, step_faults, unmarked_wall, off_profile, face_faults}
use Rattle.rules.specs.Sections.{about, forms, line_fault}
use Rattle.rules.proofs.Form.{AllFormed}
use Rattle.rules.proofs.Rising.{found_none}
use Rattle.rules.proofs.Line.{in_order}
use Rattle.entry_written.specs.Fields.{wind_fields, internal_fields, step_fields, face_fields}
use Rattle.job.specs.Lines.{entries_of, lines_of}
use Rattle.job.specs.Walk.{learn, Accepted, read_lines}
use Rattle.job.specs.InOrder.{Within, Limited, WindInOrder, InternalInOrder, FaceInOrder, StepInOrder}
use Rattle.job.specs.InOrder.{Climbs, OfYear1, OfLaterYear, InOrder}
use Rattle.job.proofs.Walk.{learn_all, EntriesInOrder, Apart, entries-formed}
use Rattle.job.proofs.Sections.{Counted}
use Rattle.job.proofs.Sheet.{Called, said_by, read_before, SheetInOrder, in-order-all, all-in-order}
use Rattle.job.proofs.Sheet.{sheet-accepted, accepted-sheet}
use Rattle.job.proofs.Lines.{small-short, step_back}
use Rattle.job.proofs.Years.{between, later-heights, in-order-year, last-height}
use Rattle.job.proofs.RoundTrip.{said-year, said-back}
use Rattle.job.proofs.Written.{mark_too_long, year-given, building-given, wind-given, internal-given, step_given}
use Rattle.job.proofs.Written.{any, long, face-given}

-- ---- an entry is in order exactly if none of its faults is found

abbrev NoneFound : List Fault → Type 0
NoneFound fs = Every (λ (f : Fault). f.found ≡ false) fs

module _ (b : Before) where
  wind-sound : (w : Wind) → NoneFound (wind_faults b.building w) → WindInOrder b.building w
  wind-sound w n =
      let t = not_beyond (pos 1) (pos 1000) w.speed n.1.0 in
      record { direction = not-false _ n.0; least-speed = t.0; greatest-speed = t.1 }

  pub wind-line : (x : List Field) → line_fault (Entry W) b x ≡ 0 → WindInOrder b.building (wind_of x)
  wind-line x z = wind-sound (wind_of x) (in_order (Entry W) b x z).none

  pub internal-line : (x : List Field) → line_fault (Entry I) b x ≡ 0 → InternalInOrder (internal_of x)
  internal-line x z = not-larger 100 (internal_of x) (in_order (Entry I) b x z).none.0

  wind-none : (w : Wind) → WindInOrder b.building w → NoneFound (wind_faults b.building w)
  wind-none w o =
      (ap not o.direction, (is_within (pos 1) (pos 1000) w.speed o.least-speed o.greatest-speed, tt))

  -- on a single slope a wall goes by its mark
  unmarked-is : (f : Face) → single b.building.kind ≡ true → wall_place f.zone ≡ true
      → unmarked_wall b.building.kind f ≡ not (one_of wall_directions f.mark)
  unmarked-is f s w = rw (s, w)

  no-unmarked : (f : Face) → FaceInOrder b.building f → unmarked_wall b.building.kind f ≡ false
  no-unmarked f o =
      by-test (single b.building.kind)
      (λ s. by-test (wall_place f.zone) (λ w. rw (s, w, o.wall s w)) (λ w. rw (s, w)))
      (λ s. rw s)

  face-sound : (f : Face) → NoneFound (face_faults b f) → FaceInOrder b.building f
  face-sound f n =
      let t = among-yes A H f.zone (not-false _ n.0) in
      record {
        zone = record { low = t.0; high = t.1 };
        on = not-false _ n.1.1.1.1.1.1.0;
        mark =
            ⊎_elim (λ e. inl (is_same both f.mark e)) (λ e. inr e)
            (or-true (is both f.mark) _ (not-false _ n.1.0));
        wall = λ s w. not-false _ (sym (unmarked-is f s w) ∙ n.1.1.1.1.1.1.1.0);
        x = not-larger 100000 f.x n.1.1.1.0;
        y = not-larger 100000 f.y n.1.1.1.1.0;
        z = not-larger 100000 f.z n.1.1.1.1.1.0;
      }

  pub face-line : (x : List Field) → line_fault (Entry F) b x ≡ 0
      → FaceInOrder b.building (face_of (has_heights b.year) x)
  face-line x z = face-sound (face_of (has_heights b.year) x) (in_order (Entry F) b x z).none

  pub height-line : (x : List Field) → line_fault (Entry F) b x ≡ 0
      → Limited (pos 0) (pos 30000) (face_of (has_heights b.year) x).height
  height-line x z = between (pos 0) (pos 30000) _ (in_order (Entry F) b x z).none.1.1.0

  -- within the profile, where there is one
  pub within-line : has_heights b.year ≡ true → (x : List Field) → line_fault (Entry F) b x ≡ 0
      → Limited b.lowest b.highest (face_of (has_heights b.year) x).height
  within-line e x z =
      let y = (face_of (has_heights b.year) x).height in
      between b.lowest b.highest y
      (ap (λ (t : Bool). t && beyond b.lowest b.highest y) (sym e)
      ∙ (in_order (Entry F) b x z).none.1.1.1.1.1.1.1.1.0)

  pub step_line : (x : List Field) → line_fault (Entry P) b x ≡ 0
      → StepInOrder (step_of x) × (b.highest <ℤ (step_of x).height)
  step_line x z =
      let n = (in_order (Entry P) b x z).none in (
        record {
          height = between (pos 0) (pos 30000) _ n.0;
          factor = between (pos 1) (pos 1000) _ n.1.1.0;
        },
        lt-true _ _ (not-false _ n.1.0),
      )

  marked : (z : ℤ) → (z ≡ both) ⊎ (knows b.building.kind z ≡ true)
      → not (is both z || knows b.building.kind z) ≡ false
  marked z (inl e) = rw e
  marked z (inr e) = by-test (is both z) (λ q. rw q) (λ q. rw (q, e))

  face-none : (f : Face) → FaceInOrder b.building f → Limited (pos 0) (pos 30000) f.height
      → off_profile b f.height ≡ false → NoneFound (face_faults b f)
  face-none f o h off = (
    rw (le-leb A f.zone o.zone.low, le-leb f.zone H o.zone.high),
    (
      marked f.mark o.mark,
      (
        is_within (pos 0) (pos 30000) f.height h.low h.high,
        (
          is-small 100000 f.x o.x,
          (
            is-small 100000 f.y o.y,
            (is-small 100000 f.z o.z, (ap not o.on, (no-unmarked f o, (off, tt)))),
          ),
        ),
      ),
    ),
  )

-- ---- accepted, so in order

counted-map : {A C : Type 0} {least most : ℕ} (f : A → C) (l : List A) → Within least most (length l)
    → Within least most (length (map f l))
counted-map f l w = rw (length-map l f) w

-- the steps of a profile, behind one of height z
steps-sound : (xs : List (List Field)) (c : Carried) {z : ℤ} → highest_of c.profile ≡ z → EntriesInOrder P c xs
    → Every StepInOrder (map step_of xs) × Climbs z (map step_of xs)
steps-sound [] c e h = (tt, tt)
steps-sound (x ∷ xs) c e h =
    let s = step_line (before c) x h.0 in
    let r = steps-sound xs (learn (Entry P) x c) (last-height (neg_ℤ (pos 1)) c.profile (step_of x)) h.1 in
    ((s.0, r.0), (subst (λ (y : ℤ). y <ℤ (step_of x).height) e s.1, r.1))

module _ (es : Section → List (List Field)) where
  all_said : {A : Type 0} (Q : A → Type 0) (h : Bool) → SheetInOrder es h → (s : Section) → Called h s → Apart s
      → (of : List Field → A)
      → ((x : List Field) → line_fault (Entry s) (before (said_by es h)) x ≡ 0 → Q (of x)) → Every Q (map of (es s))
  all_said Q h o s k a of said = map-every Q of (es s) (every-by said (es s) (in-order-all es o s k a))

  said-form : (h : Bool) → SheetInOrder es h → OfYear1 (said_by es h) ⊎ OfLaterYear (said_by es h)
  said-form false o =
      inl (record { year = refl; profile = refl; heights = map-every _ (face_of false) (es F) (all (es F)) })
    where
      all : (xs : List (List Field)) → Every (λ x. (face_of false x).height ≡ pos 0) xs
      all [] = tt
      all (x ∷ xs) = (refl, all xs)
  said-form true o =
      let y = said-year es o in
      let p = steps-sound (es P) (read_before es true P) refl (o.entries P tt) in
      let b = before (said_by es true) in
      inr (record {
        year = y;
        counted = counted-map step_of (es P) (o.counted P tt);
        profile = p.0;
        rising = p.1;
        heights =
            all_said _ true o F tt tt (face_of (has_heights b.year))
            (λ x z. record { range = height-line b x z; within = within-line b (later-heights b.year y) x z });
      })

  said-in-order : (h : Bool) → SheetInOrder es h → InOrder (said_by es h)
  unfolding building_fault
  said-in-order h o =
      let b = before (said_by es h) in
      record {
        building =
            found_none (faults b.year b.building)
            (in_order (Entry B) b _
            (every-at _ (es B) [] 0 (omega (arith, (o.counted B tt).low)) (in-order-all es o B tt tt))).none;
        winds-counted = counted-map wind_of (es W) (o.counted W tt);
        winds = all_said (WindInOrder b.building) h o W tt tt wind_of (wind-line b);
        internals-counted = counted-map internal_of (es I) (o.counted I tt);
        internals = all_said InternalInOrder h o I tt tt internal_of (internal-line b);
        faces-counted = counted-map (face_of (has_heights b.year)) (es F) (o.counted F tt);
        faces = all_said (FaceInOrder b.building) h o F tt tt (face_of (has_heights b.year)) (face-line b);
        form = said-form h o;
      }

pub accepted-in-order : (xs : List (List Field)) (c : Carried) → read_lines xs ≡ Accepted c → InOrder c
accepted-in-order xs c a =
    let t = accepted-sheet xs c a in
    subst InOrder (sym t.said) (said-in-order t.entries t.heights t.in_order)

-- ---- in order, so accepted

-- an entry in order has no number that is too long
known-short : (kind z : ℤ) → knows kind z ≡ true → too_long z ≡ false
known-short kind z e = small-short z (omega (arith, (known-within kind z e).to))

range-short : (least most : ℕ) (z : ℤ) → most ≤ 9999999 → Limited (pos least) (pos most) z → too_long z ≡ false
range-short least most z few o =
    small-short z
    (omega (arith, (within least most z (is_within (pos least) (pos most) z o.low o.high)).to))

module _ (b : Before) where
  wind-entry : (w : Wind) → WindInOrder b.building w → line_fault (Entry W) b (wind_fields w) ≡ 0
  wind-entry w o =
      wind-given b w
      ∙ rw (
        known-short b.building.kind w.direction o.direction,
        range-short 1 1000 w.speed (omega arith)
            (record { low = o.least-speed; high = o.greatest-speed }),
      )
      (found_none (wind_faults b.building w) (wind-none b w o))

  internal-entry : (z : ℤ) → InternalInOrder z → line_fault (Entry I) b (internal_fields z) ≡ 0
  internal-entry z h = internal-given b z ∙ rw (small-short z (omega arith), is-small 100 z h)

  step-entry : (s : Step) → StepInOrder s → b.highest <ℤ s.height → line_fault (Entry P) b (step_fields s) ≡ 0
  step-entry s o r =
      step_given b s
      ∙ rw (
        range-short 0 30000 s.height (omega arith) o.height,
        range-short 1 1000 s.factor (omega arith) o.factor,
      )
      (found_none (step_faults b.highest s) (
        is_within (pos 0) (pos 30000) s.height o.height.low o.height.high,
        (
          ap not (true-lt r),
          (is_within (pos 1) (pos 1000) s.factor o.factor.low o.factor.high, tt),
        ),
      ))

  mark-short : (z : ℤ) → (z ≡ both) ⊎ (knows b.building.kind z ≡ true) → mark_too_long z ≡ false
  mark-short z (inl e) = rw e
  mark-short z (inr e) = by-test (is both z) (λ q. rw q) (λ q. rw (q, known-short b.building.kind z e))

  face-entry : (f : Face) → carried_face (has_heights b.year) f ≡ f → FaceInOrder b.building f
      → Limited (pos 0) (pos 30000) f.height → off_profile b f.height ≡ false
      → line_fault (Entry F) b (face_fields (has_heights b.year) f) ≡ 0
  face-entry f kept o h off =
      face-given b f
      ∙ ap (λ (g : Face). cond (any (long g)) 1 (first (face_faults b g))) kept
      ∙ rw (
        mark-short f.mark o.mark,
        range-short 0 30000 f.height (omega arith) h,
        small-short f.x (omega (arith, o.x)),
        small-short f.y (omega (arith, o.y)),
        small-short f.z (omega (arith, o.z)),
      )
      (found_none (face_faults b f) (face-none b f o h off))

-- the steps of a profile, behind one of height z
steps-entries : (l : List Step) (c : Carried) {z : ℤ} → highest_of c.profile ≡ z → Every StepInOrder l → Climbs z l
    → EntriesInOrder P c (map step_fields l)
steps-entries [] c e h r = tt
steps-entries (s ∷ l) c {z} e h r =
    let i = step-entry (before c) s h.0 (subst (λ (y : ℤ). y <ℤ s.height) (sym e) r.0) in
    let back = step_back s (in_order (Entry P) (before c) (step_fields s) i).formed in (
      i,
      steps-entries l (learn (Entry P) (step_fields s) c)
          (last-height (neg_ℤ (pos 1)) c.profile (step_of (step_fields s)) ∙ ap (λ (t : Step). t.height) back)
          h.1 r.1,
    )

-- the height of the last of them
pub learned-height : (l : List Step) (c : Carried) {z : ℤ} → highest_of c.profile ≡ z
    → EntriesInOrder P c (map step_fields l)
    → highest_of (learn_all P (map step_fields l) c).profile ≡ last_height z l
learned-height [] c e h = e
learned-height (s ∷ l) c e h =
    let back = step_back s (in_order (Entry P) (before c) (step_fields s) h.0).formed in
    learned-height l (learn (Entry P) (step_fields s) c)
    (last-height (neg_ℤ (pos 1)) c.profile (step_of (step_fields s)) ∙ ap (λ (t : Step). t.height) back) h.1

-- a face as the sheet of its year carries it
record FaceFits (b : Before) (f : Face) : Type 0 where
  kept : carried_face (has_heights b.year) f ≡ f
  range : Limited (pos 0) (pos 30000) f.height
  within : off_profile b f.height ≡ false

low_fits : (b : Before) (f : Face) → has_heights b.year ≡ false → f.height ≡ pos 0 → FaceFits b f
low_fits b f e z =
    record {
      kept = rw e (λ i. record { zone = f.zone; mark = f.mark; height = sym z i; x = f.x; y = f.y; z = f.z });
      range = rw z (record { low = le-by _ _ (omega arith); high = le-by _ _ (omega arith) });
      within = rw e;
    }

tall-fits : (b : Before) (f : Face) → has_heights b.year ≡ true → Limited (pos 0) (pos 30000) f.height
    → Limited b.lowest b.highest f.height → FaceFits b f
tall-fits b f e r w =
    record { kept = rw e; range = r; within = rw e (is_within b.lowest b.highest f.height w.low w.high) }

-- no step stands before the first
none_before : (es : Section → List (List Field)) (h : Bool) → highest_of (read_before es h P).profile ≡ neg_ℤ (pos 1)
none_before es true = refl
none_before es false = refl

module _ (c : Carried) (o : InOrder c) where
  abbrev h : Bool
  h = has_heights c.year

  later : T h → OfLaterYear c
  later t = ⊎_elim (λ y. absurd (subst (λ (z : ℤ). T (has_heights z)) y.year t)) (λ l. l) o.form

  faces-fit : Every (FaceFits (before c)) c.faces
  faces-fit =
      ⊎_elim
      (λ y. every-by (λ f z. low_fits (before c) f (ap has_heights y.year) z) c.faces y.heights)
      (λ l. every-by (λ f z. tall-fits (before c) f (later-heights c.year l.year) z.range z.within)
      c.faces l.heights) o.form

  -- each entry is in order by all that is carried
  line-in-order : (s : Section) → Called h s → Apart s
      → Every (λ x. line_fault (Entry s) (before c) x ≡ 0) (entries_of c s)
  line-in-order «V» k a =
      let y = (later k).year in (
        year-given (before c) c.year
            ∙ rw (range-short 2 last_year c.year (omega arith) y)
            (found_none (year_faults c.year) (is_within (pos 2) (pos last_year) c.year y.low y.high, tt)),
        tt,
      )
  line-in-order B k a =
      (sym (building-given c.building (before c)) ∙ given-none c.year c.building o.building, tt)
  line-in-order W k a = map-every _ wind_fields c.winds (every-by (wind-entry (before c)) c.winds o.winds)
  line-in-order I k a =
      map-every _ internal_fields c.internals (every-by (internal-entry (before c)) c.internals o.internals)
  line-in-order P k a = absurd a
  line-in-order F k a =
      map-every _ (face_fields h) c.faces
      (every-both (λ f i w. face-entry (before c) f w.kept i w.range w.within) c.faces o.faces faces-fit)

  steps-in-order : T h → (d : Carried) → highest_of d.profile ≡ neg_ℤ (pos 1)
      → EntriesInOrder P d (map step_fields c.profile)
  steps-in-order k d e = steps-entries c.profile d e (later k).profile (later k).rising

  counted : (s : Section) → Called h s → Within (about s).least ((about s).most c.year) (length (entries_of c s))
  counted «V» k = record { low = omega arith; high = omega arith }
  counted B k = record { low = omega arith; high = omega arith }
  counted W k = counted-map wind_fields c.winds o.winds-counted
  counted I k = counted-map internal_fields c.internals o.internals-counted
  counted P k = counted-map step_fields c.profile (later k).counted
  counted F k = counted-map (face_fields h) c.faces o.faces-counted

  formed : (s : Section) → Called h s → Every (AllFormed (forms h (Entry s))) (entries_of c s)
  formed s k = go s k
    where
      each : (s : Section) → Called h s → Apart s → Every (AllFormed (forms h (Entry s))) (entries_of c s)
      each s k a = every-by (λ x z. (in_order (Entry s) (before c) x z).formed) (entries_of c s) (line-in-order s k a)

      go : (s : Section) → Called h s → Every (AllFormed (forms h (Entry s))) (entries_of c s)
      go «V» k = each «V» k tt
      go B k = each B k tt
      go W k = each W k tt
      go I k = each I k tt
      go P k = entries-formed P (map step_fields c.profile) nothing (steps-in-order k nothing refl)
      go F k = each F k tt

  read_back : said_by (entries_of c) h ≡ c
  read_back = said-back c h (record { of-year = in-order-year c o; heights = refl; formed = formed })

  sheet-sound : SheetInOrder (entries_of c) h
  sheet-sound = record { counted = by-year; entries = at }
    where
      by-year : (s : Section) → Called h s → Counted (said_by (entries_of c) h).year s (length (entries_of c s))
      by-year s k =
          subst (λ (d : Carried). Counted d.year s (length (entries_of c s))) (sym read_back) (counted s k)

      each : (s : Section) → Called h s → Apart s → EntriesInOrder s (read_before (entries_of c) h s) (entries_of c s)
      each s k a =
          all-in-order (entries_of c) h s k a
          (subst (λ (d : Carried). Every (λ x. line_fault (Entry s) (before d) x ≡ 0) (entries_of c s)) (sym read_back)
          (line-in-order s k a))

      at : (s : Section) → Called h s → EntriesInOrder s (read_before (entries_of c) h s) (entries_of c s)
      at «V» k = each «V» k tt
      at B k = each B k tt
      at W k = each W k tt
      at I k = each I k tt
      at P k = steps-in-order k (read_before (entries_of c) h P) (none_before (entries_of c) h)
      at F k = each F k tt

pub in-order-accepted : (c : Carried) → InOrder c → read_lines (lines_of c) ≡ Accepted c
unfolding lines_of
in-order-accepted c o =
    sheet-accepted (entries_of c) (has_heights c.year) (sheet-sound c o) ∙ ap Accepted (read_back c o)
