-- The longest line in order of each kind, and the longest that still can come of the lines called for.
use Prim.Native.Nat.{ℕ, zero, suc, ◌+◌, ◌*◌, ◌/◌, ◌^◌, ◌≤◌, ◌<◌}
use mathlib.Core.Path.{◌≡◌, refl}
use mathlib.Core.Logic.{◌⊎◌, inl, inr}
use mathlib.Core.Bool.{Bool, true, false}
use mathlib.Core.List.{List, [], ◌∷◌, ◌++◌}
use native.Mathlib.Nat.{mul-le-mul_right, suc-mul}
use native.Mathlib.Omega.{arith}
use lib.Dec.{ltb}
use lib.IntN.{ℤ, pos}
use lib.ListN.{length}
use borrow.Author.Tests.{ltb-true, ltb-false}
use Rattle.whole.proofs.Tests.{by-test}
use Rattle.field.specs.declared.Field.{Field}
use Rattle.whole.specs.Digits.{digits_within, digits}
use Rattle.lines.specs.Lines.{fields_of, field_text}
use Rattle.whole.proofs.Digits.{by-tens, length-small, length_more}
use Rattle.building.specs.declared.Building.{Building}
use Rattle.building.specs.Building.{faults, building_fault}
use Rattle.building.specs.Places.{knows}
use Rattle.building.proofs.Accepted.{within}
use Rattle.building.proofs.Places.{known-within}
use Rattle.building.proofs.Ranges.{is_within}
use Rattle.rules.specs.declared.Before.{Before}
use Rattle.rules.specs.declared.FieldForm.TheVariants.{Number, Mark}
use Rattle.rules.specs.declared.Section.{Section}
use Rattle.rules.specs.declared.Section.TheVariants.{«V», B, W, I, P, F}
use Rattle.rules.specs.declared.Kind.{Kind}
use Rattle.rules.specs.declared.Kind.TheVariants.{Count, Entry}
use Rattle.building.specs.Year.{last_year, has_heights}
use Rattle.entry.specs.Says.{number, size, mark, both, at, year_of, building_of, wind_of, internal_of, step_of}
use Rattle.entry.specs.Says.{face_of}
use Rattle.rules.specs.Form.{number_forms}
use Rattle.rules.specs.Sections.{about, forms, line_fault}
use Rattle.job.specs.Walk.{entries, calls, sheet}
use Rattle.job.specs.InOrder.{Limited, WindInOrder, InternalInOrder, FaceInOrder, StepInOrder}
use Rattle.rules.proofs.Form as form
use Rattle.rules.proofs.Form.{Formed, letter, plus, minus, dash, AllFormed, none, more}
use Rattle.rules.proofs.Rising.{found_none}
use Rattle.rules.proofs.Line.{in_order}
use Rattle.job.proofs.Lines.{all-not-bad}
use Rattle.job.proofs.Room.{limit-roomed}
use Rattle.job.proofs.Sections.{CountLine, count-says}
use Rattle.job.proofs.Years.{between}
use Rattle.job.proofs.InOrder.{wind-line, internal-line, step_line, face-line, height-line}
use Rattle.sheet.proofs.Bytes.{field_bytes, line-bytes}
use Rattle.sheet.proofs.Building.{short, signed, building-bytes}

-- ---- one line

-- a larger number has no fewer digits
digits-mono : (n m : ℕ) → m ≤ n → length (digits m) ≤ length (digits n)
digits-mono = by-tens (λ n. (m : ℕ) → m ≤ n → length (digits m) ≤ length (digits n))
    (λ n h m l. omega (arith, length-small n h, length-small m (omega arith)))
    (λ n h ih m l. by-test (ltb m 10)
    (λ t. omega (arith, length-small m (ltb-true m 10 t), length_more n h))
    (λ t. omega (arith, length_more m (ltb-false m 10 t), length_more n h, ih (m / 10) (omega arith))))

-- the greatest count of a section in any year: no year has more than the fourth
abbrev greatest : Section → ℕ
greatest s = (about s).most (pos 4)

most-greatest : (year : ℤ) (s : Section) → (about s).most year ≤ greatest s
most-greatest year «V» = omega arith
most-greatest year B = omega arith
most-greatest year W = omega arith
most-greatest year I = omega arith
most-greatest year P = omega arith
most-greatest year F = limit-roomed year

-- the longest line in order, with its spaces and its LF
unfoldable pub longest_line : Kind → ℕ
longest_line (Count s) = 3 + length (digits (greatest s))
longest_line (Entry «V») = 2
longest_line (Entry B) = 30
longest_line (Entry W) = 9
longest_line (Entry I) = 5
longest_line (Entry P) = 11
longest_line (Entry F) = 36

-- a number in a range has no sign
in-range : {f : Field} (k least most : ℕ) → Formed Number f → Limited (pos least) (pos most) (number f)
    → most < 10 ^ suc k
    → length (field_text f) ≤ suc k
in-range {f} k least most h o few =
    let w = within least most (number f) (is_within (pos least) (pos most) (number f) o.low o.high) in
    short k h w.plain (omega (arith, w.to))

-- one digit
year-bytes : {x : List Field} → AllFormed (number_forms 1) x
    → Limited (pos 2) (pos last_year) (year_of x) → field_bytes x ≤ 2
year-bytes (more y none) o = omega (arith, in-range 0 2 last_year y o (omega arith))

-- a direction has no sign and at most 3 digits
known-short : {f : Field} (kind : ℤ) → Formed Number f → knows kind (number f) ≡ true → length (field_text f) ≤ 3
known-short kind h e = let w = known-within kind _ e in short 2 h w.plain (omega (arith, w.to))

-- speed: 4 digits
wind-bytes : (g : Building) {x : List Field} → AllFormed (number_forms 2) x → WindInOrder g (wind_of x)
    → field_bytes x ≤ 9
wind-bytes g {x} (more d (more v none)) o =
    omega (
      arith,
      known-short g.kind d o.direction,
      in-range 3 1 1000 v (record { low = o.least-speed; high = o.greatest-speed }) (omega arith),
    )

-- a sign and 3 digits
internal-bytes : {x : List Field} → AllFormed (number_forms 1) x → InternalInOrder (internal_of x) → field_bytes x ≤ 5
internal-bytes (more i none) o = omega (arith, signed 2 i (omega arith))

mark-short : {f : Field} (kind : ℤ) → Formed Mark f → (mark f ≡ both) ⊎ (knows kind (mark f) ≡ true)
    → length (field_text f) ≤ 3
mark-short kind dash e = omega arith
mark-short kind (form.mark (plus {m = m} h)) (inl e) = absurd (let q : m ≡ 4294967295 = cc in omega arith)
mark-short kind (form.mark (plus h)) (inr e) = known-short kind (plus h) e
mark-short kind (form.mark (minus {m = zero} p h)) e = absurd (omega arith)
mark-short kind (form.mark (minus {m = suc m} p h)) (inl e) = absurd (let q : ◌≡◌ {A = ℕ} 0 1 = cc in omega arith)
mark-short kind (form.mark (minus {m = suc m} p h)) (inr e) = known-short kind (minus {m = suc m} p h) e

-- 5 and 4 digits
step-bytes : {x : List Field} → AllFormed (number_forms 2) x → StepInOrder (step_of x) → field_bytes x ≤ 11
step-bytes (more h (more f none)) o =
    omega (arith, in-range 4 0 30000 h o.height (omega arith), in-range 3 1 1000 f o.factor (omega arith))

-- a height: 5 digits; each area: a sign and 6 digits
face-bytes : (h : Bool) (g : Building) {x : List Field} → AllFormed (forms h (Entry F)) x → FaceInOrder g (face_of h x)
    → Limited (pos 0) (pos 30000) (face_of h x).height → field_bytes x ≤ 36
face-bytes true g (more letter (more m (more h (more a (more b (more d none)))))) o r =
    omega (
      arith,
      mark-short g.kind m o.mark,
      in-range 4 0 30000 h r (omega arith),
      signed 5 a (omega (arith, o.x)),
      signed 5 b (omega (arith, o.y)),
      signed 5 d (omega (arith, o.z)),
    )
face-bytes false g (more letter (more m (more a (more b (more d none))))) o r =
    omega (
      arith,
      mark-short g.kind m o.mark,
      signed 5 a (omega (arith, o.x)),
      signed 5 b (omega (arith, o.y)),
      signed 5 d (omega (arith, o.z)),
    )

count-bytes : (year : ℤ) (s : Section) (x : List Field) → CountLine year s x
    → field_bytes x ≤ 3 + length (digits (greatest s))
count-bytes year s x t =
    let h : t.count ≤ greatest s = omega (arith, t.counted.high, most-greatest year s) in
    rw t.is (omega (arith, digits-mono (greatest s) t.count h))

in-order-bytes : (k : Kind) (b : Before) (x : List Field) → line_fault k b x ≡ 0 → field_bytes x ≤ longest_line k
unfolding longest_line building_fault
in-order-bytes (Count s) b x z = count-bytes b.year s x (count-says s b x z)
in-order-bytes (Entry «V») b x z =
    let o = in_order (Entry «V») b x z in
    year-bytes o.formed (between (pos 2) (pos last_year) _ o.none.0)
in-order-bytes (Entry B) b x z =
    let o = in_order (Entry B) b x z in
    building-bytes b.year o.formed (found_none (faults b.year (building_of x)) o.none)
in-order-bytes (Entry W) b x z = wind-bytes b.building (in_order (Entry W) b x z).formed (wind-line b x z)
in-order-bytes (Entry I) b x z = internal-bytes (in_order (Entry I) b x z).formed (internal-line b x z)
in-order-bytes (Entry P) b x z = step-bytes (in_order (Entry P) b x z).formed (step_line b x z).0
in-order-bytes (Entry F) b x z =
    face-bytes (has_heights b.year) b.building (in_order (Entry F) b x z).formed (face-line b x z)
    (height-line b x z)

pub in-order-short : (k : Kind) (b : Before) (l : List ℕ) → line_fault k b (fields_of l) ≡ 0
    → length l + 1 ≤ longest_line k
in-order-short k b l z =
    omega (arith, line-bytes l (all-not-bad (in_order k b (fields_of l) z).formed), in-order-bytes k b (fields_of l) z)

-- ---- the lines that are called for

-- a count may call for as many entries as the section has at most
unfoldable pub longest : List Kind → ℕ
longest [] = 0
longest (Count s ∷ ks) = longest_line (Count s) + greatest s * longest_line (Entry s) + longest ks
longest (Entry s ∷ ks) = longest_line (Entry s) + longest ks

-- 4 + 2 for V, 4 + 30 for B, 4 + 8 · 9 for W, 4 + 4 · 5 for I, 5 + 16 · 11 for P, 6 + 240 · 36 for F
longest-tall : longest (sheet true) ≡ 8967
unfolding longest longest_line digits digits_within
longest-tall = refl

longest-plain : longest (sheet false) ≡ 8780
unfolding longest longest_line digits digits_within
longest-plain = refl

pub longest-sheet-is : (h : Bool) → longest (sheet h) ≤ 8967
longest-sheet-is true = omega (arith, longest-tall)
longest-sheet-is false = omega (arith, longest-plain)

longest-entries : (s : Section) (n : ℕ) (ks : List Kind)
    → longest (entries s n ++ ks) ≡ n * longest_line (Entry s) + longest ks
unfolding longest
longest-entries s zero ks = omega arith
longest-entries s (suc n) ks = omega (arith, longest-entries s n ks, suc-mul n (longest_line (Entry s)))

pub count_most : (s : Section) (b : Before) (x : List Field) → line_fault (Count s) b x ≡ 0
    → size (at x 1) ≤ (about s).most b.year
count_most s b x z = let t = count-says s b x z in rw t.is t.counted.high

-- a line in order leaves room for the lines that are then called for
pub longest-on : (k : Kind) (ks : List Kind) (b : Before) (x : List Field) → line_fault k b x ≡ 0
    → longest_line k + longest (calls k x ++ ks) ≤ longest (k ∷ ks)
unfolding longest
longest-on (Count s) ks b x z =
    let h : size (at x 1) ≤ greatest s = omega (arith, count_most s b x z, most-greatest b.year s) in
    omega (arith, longest-entries s (size (at x 1)) ks, mul-le-mul_right (longest_line (Entry s)) h)
longest-on (Entry s) ks b x z = omega arith
