-- How long a text can be: the line that refuses a sheet, and the report of an accepted job.
use mathlib.Core.Path.{◌≡◌, refl, sym, ap, subst}
use mathlib.Core.Bool.{Bool, true, false, cond}
use mathlib.Core.List.Memᴰ
use mathlib.Core.List.{List, [], ◌∷◌, Memᴰ}
use mathlib.Core.Logic.{⊎_elim}
use Prim.Native.Nat.{ℕ, suc, ◌+◌, ◌-◌, ◌*◌, ◌^◌, ◌≤◌, ◌<◌}
use native.Mathlib.Omega.{arith}
use lib.IntN.{ℤ, pos, negsuc, nat_abs}
use lib.ListN.{length, length-append, length-take}
use lib.Seq.{take_at}
use mir.Syntax.{w32}
use mir.Val.{Fits}
use Rattle.whole.specs.Digits.{digits, decimal}
use Rattle.whole.specs.Newton.{newton}
use Rattle.whole.proofs.Digits.{digits-length, length-small}
use Rattle.whole.proofs.Tests.{by-test}
use Rattle.building.specs.Year.{has_long_sheds}
use Rattle.pair.specs.declared.Pair.{Pair}
use Rattle.pair.specs.Total.{units}
use Rattle.pair.proofs.Sizes.{Sized, within-is, within-pair_of, newtons-small}
use Rattle.verdict.specs.declared.Verdict.{Verdict}
use Rattle.job.specs.Carried.{Carried, no_wind}
use Rattle.job.specs.InOrder.{InOrder}
use Rattle.job.proofs.Room.{few-faces}
use Rattle.worst.specs.declared.Axis.{Axis}
use Rattle.worst.specs.declared.Axis.TheVariants.{X, Y, Z}
use Rattle.worst.specs.declared.Side.{Side}
use Rattle.worst.specs.declared.Side.TheVariants.{Greatest, Least}
use Rattle.worst.specs.declared.Extreme.{Extreme}
use Rattle.worst.specs.declared.Extremes.{Extremes}
use Rattle.worst.specs.declared.Six.{Six}
use Rattle.worst.specs.declared.Stored.{Stored}
use Rattle.worst.specs.Best.{at}
use Rattle.whole.specs.Lists.{numbers}
use Rattle.worst.specs.Cases.{Case, Chosen, Permitted}
use Rattle.worst.specs.Forces.{acts, alternatives, wind_at, loads}
use Rattle.worst.specs.Shown.{padded, shown, total_in}
use Rattle.worst.specs.Worst.{given, extreme, six_extremes, reckoned}
use Rattle.worst.specs.Within.{most_newtons}
use Rattle.worst.specs.Stored.{extreme_by, six_by, telling, reckoned_by}
use Rattle.whole.proofs.ByPlace.{get_d-member, get_d-all}
use Rattle.whole.proofs.Numbers.{Between, numbers-member}
use Rattle.worst.proofs.Members.{case-permitted}
use Rattle.worst.proofs.Meaning.{is_best-member}
use Rattle.worst.proofs.OneFace.{OneOrTwo, alone, pair}
use Rattle.worst.proofs.Ranges.{case_total-small}
use Rattle.worst.proofs.Accepted.{given-sound, given-in-range}
use Rattle.worst.proofs.Promises.{extreme-shows, stored-shows}
use Rattle.worst.proofs.SumsWithin.{within-at, side-small, telling-within}
use Rattle.report.specs.Lines.{spaced, case_numbers, total_text, extreme_text, axis_text, six_text, x, y, z}
use Rattle.report.specs.Report.{report_text, stored_text, refused_text}
use Rattle.report.specs.Short.{Fair, Digits, Printable, Both, AllSix, faces_shown}
use Rattle.report.specs.Short.{SixPrintable, after_word}
use Rattle.report.proofs.Lines.{spaced-none, six-parts, long-total, short-total}
use Rattle.report.proofs.Reports.{refused-parts, Reckons}

-- ---- numbers after spaces

spaced-size : (k : ℕ) (n : ℕ) → n < 10 ^ suc k → (ns : List ℕ)
    → length (spaced (n ∷ ns)) ≤ suc (suc k) + length (spaced ns)
unfolding spaced
spaced-size k n h ns = omega (arith, length-append (digits n) (spaced ns), digits-length k n h)

spaced-u32 : (n : ℕ) → Fits w32 n → length (spaced (n ∷ [])) ≤ 11
spaced-u32 n f = omega (arith, spaced-size 9 n (omega (arith, f.fits)) [], ap length spaced-none)

pub refused-most : (v : Verdict) → Fits w32 v.number → Fits w32 v.line → length (refused_text v) ≤ 30
refused-most v f g =
    rw refused-parts (simp length-append (omega (arith, spaced-u32 v.number f, spaced-u32 v.line g)))

abbrev OneDigit : ℕ → Type 0
OneDigit n = n < 10

abbrev AllOf : {A : Type 0} → (A → Type 0) → List A → Type 0
AllOf {A} P l = (a : A) → Memᴰ a l → P a

-- numbers that are digits take two bytes each
pub spaced-digits : (ns : List ℕ) → Digits ns → length (spaced ns) ≡ 2 * length ns
unfolding spaced
spaced-digits [] h = refl
spaced-digits (n ∷ ns) h =
    omega (arith, length-append (digits n) (spaced ns), length-small n (h 0), spaced-digits ns (λ i. h (suc i)))

all_cons : {A : Type 0} {P : A → Type 0} {a : A} {l : List A} → P a → AllOf P l → AllOf P (a ∷ l)
all_cons {A} {P} {a} h k b m = ⊎_elim (λ e. subst P (sym e) h) (k b) (Memᴰ.cases_cons m)

-- ---- the numbers of a case of an accepted job

-- a choice has one alternative for each face
chosen-each : {F A : Type 0} (P : A → Type 0) (alternatives : F → List A) (fs : List F) (ks : List A)
    → ((f : F) → Memᴰ f fs → AllOf P (alternatives f)) → Chosen alternatives fs ks
    → (length ks ≡ length fs) × AllOf P ks
chosen-each P alternatives [] [] h m = (refl, λ a n. absurd (Memᴰ.not-nil n))
chosen-each P alternatives [] (k ∷ ks) h m = absurd m
chosen-each P alternatives (f ∷ fs) [] h m = absurd m
chosen-each P alternatives (f ∷ fs) (k ∷ ks) h m =
    let r = chosen-each P alternatives fs ks (λ g n. h g (Memᴰ.tail n)) m.1 in
    (ap suc r.0, all_cons (h f (Memᴰ.head refl) k m.0) r.1)

few : {outs : List ℤ} → OneOrTwo outs → length outs ≤ 2
few (alone v) = omega arith
few (pair v u) = omega arith

alternative-digit : (t : Bool) (outs : List ℤ) → (t ≡ true → OneOrTwo outs) → (k : ℕ)
    → Memᴰ k (cond t (numbers (length outs) 1) (1 ∷ [])) → OneDigit k
alternative-digit true outs h k m = omega (arith, (numbers-member (length outs) 1 m).high, few (h refl))
alternative-digit false outs h k m = omega (arith, Memᴰ.eq_of_singleton m)

-- a permitted case, at a value
module _ (axis : Axis) (c : Carried) (o : InOrder c) (v : ℤ) (case : Case ℕ ℕ ℕ)
    (permitted : Permitted (loads axis (given c)) case) where
  abbrev named : Extreme
  named = shown (length c.faces) (at v case)

  wind : Between 1 (length c.winds) case.wind
  wind = numbers-member (length c.winds) 1 permitted.wind

  internal : Between 1 (length c.internals) case.internal
  internal = numbers-member (length c.internals) 1 permitted.internal

  chosen : (length case.chosen ≡ length c.faces) × AllOf OneDigit case.chosen
  chosen =
      let w = wind_at (given c) case.wind in
      let m = get_d-member c.winds (case.wind - 1) no_wind (omega (arith, wind.low, wind.high)) in
      chosen-each OneDigit (alternatives (given c) w) c.faces case.chosen
      (λ f n. alternative-digit (acts f w.direction) _ (given-sound c o w f m n)) permitted.chosen

  case-numbers : case_numbers named ≡ case.wind ∷ case.internal ∷ case.chosen
  unfolding shown padded
  case-numbers =
      ap (λ (ks : List ℕ). case.wind ∷ case.internal ∷ ks)
      (take_at case.chosen _ (length c.faces) chosen.0)

  case-digits : AllOf OneDigit (case.wind ∷ case.internal ∷ case.chosen)
  case-digits =
      all_cons (omega (arith, wind.high, o.winds-counted.high))
      (all_cons (omega (arith, internal.high, o.internals-counted.high)) chosen.1)

  pub case-digit : Digits (case_numbers named)
  case-digit =
      subst Digits (sym case-numbers)
      (get_d-all OneDigit (case.wind ∷ case.internal ∷ case.chosen) 0 (omega arith) case-digits)

  pub case-counted : length c.faces ≤ length named.alternative
  unfolding shown padded
  case-counted = simp length-append (omega (arith, chosen.0))

-- ---- what is shown of an accepted job: its extremes, and those that stored sums tell

-- what holds of each of six
by-six : (P : Extreme → Type 0) (e : Axis → Side → Extreme) → ((axis : Axis) (s : Side) → P (e axis s))
    → let pair : Axis → Extremes = λ axis. record { greatest = e axis Greatest; least = e axis Least } in
    AllSix P (record { x = pair X; y = pair Y; z = pair Z })
by-six P e h = ((h X Greatest, h X Least), (h Y Greatest, h Y Least), (h Z Greatest, h Z Least))

module _ (c : Carried) (o : InOrder c) where
  -- a permitted case, at a value that a job of its year can have
  abbrev Prints : Extreme → Type 0
  Prints = Printable c.year (length c.faces)

  shown-prints : (axis : Axis) (v : ℤ) (case : Case ℕ ℕ ℕ) → Permitted (loads axis (given c)) case
      → nat_abs v ≤ most_newtons c.year * newton → Prints (shown (length c.faces) (at v case))
  unfolding shown
  shown-prints axis v case p h =
      record {
        few = omega arith;
        counted = case-counted axis c o v case p;
        digits = case-digit axis c o v case p;
        total = within-pair_of (most_newtons c.year) v h;
      }

  own-prints : (axis : Axis) (s : Side) → Prints (extreme axis s c)
  own-prints axis s =
      let h = extreme-shows axis s c o in
      let p = case-permitted (loads axis (given c)) h.case (is_best-member s _ h.best) in
      let small = rw h.best.reached at (case_total-small (given c) (given-in-range c o) axis h.case) in
      subst Prints (sym h.named)
      (shown-prints axis (total_in (extreme axis s c)) h.case p (omega (arith, small)))

  pub report-prints : SixPrintable (record { year = c.year; six = six_extremes c })
  unfolding six_extremes shown
  report-prints =
      record {
        few = subst (λ n. n ≤ 240) (sym faces-are) (few-faces c o);
        all = subst (λ n. AllSix (Printable c.year n) (six_extremes c)) (sym faces-are)
            (by-six Prints (λ axis s. extreme axis s c) own-prints);
      }
    where
      faces-are : faces_shown (six_extremes c) ≡ length c.faces
      faces-are = ap (λ (e : Extreme). e.faces) (extreme-shows X Greatest c o).named

  module _ (t : Stored) where
    abbrev told : Stored
    told = telling t c

    told-prints : (axis : Axis) (s : Side) → Prints (extreme_by axis s told c)
    told-prints axis s =
        let h = stored-shows axis s c o told in
        let n = most_newtons c.year in
        let small =
        side-small n _
        (within-at n told.cell (telling-within c o t) (4 * (h.case.wind - 1) + (h.case.internal - 1)))
        axis s in
        subst Prints (sym h.named) (shown-prints axis _ h.case h.permitted small)

    pub stored-prints : SixPrintable (record { year = c.year; six = six_by told c })
    unfolding six_by shown
    stored-prints =
        record {
          few = subst (λ n. n ≤ 240) (sym faces-are) (few-faces c o);
          all = subst (λ n. AllSix (Printable c.year n) (six_by told c)) (sym faces-are)
              (by-six Prints (λ axis s. extreme_by axis s told c) told-prints);
        }
      where
        faces-are : faces_shown (six_by told c) ≡ length c.faces
        faces-are = ap (λ (e : Extreme). e.faces) (stored-shows X Greatest c o told).named

-- what is reckoned by a job's own sums, and by stored ones
unfoldable pub as-report : Reckons reckoned report_text
unfolding report_text
as-report =
    record {
      shown = λ c. record { year = c.year; six = six_extremes c };
      own = λ v. refl;
      fine = λ c. refl;
      lines = λ c. refl;
    }

unfoldable pub as-stored : (t : Stored) → Reckons (reckoned_by t) (stored_text t)
unfolding stored_text
as-stored t =
    record {
      shown = λ c. record { year = c.year; six = six_by (telling t c) c };
      own = λ v. refl;
      fine = λ c. refl;
      lines = λ c. refl;
    }

-- and can be printed
pub report-printable : (c : Carried) → InOrder c → SixPrintable (as-report.shown c)
unfolding as-report
report-printable = report-prints

pub stored-printable : (t : Stored) (c : Carried) → InOrder c → SixPrintable ((as-stored t).shown c)
unfolding as-stored
stored-printable t c o = stored-prints c o t

-- ---- six lines

decimal-size : (k : ℕ) (z : ℤ) → nat_abs z < 10 ^ suc k → length (decimal z) ≤ suc (suc k)
unfolding decimal
decimal-size k (pos n) h = omega (arith, digits-length k n h)
decimal-size k (negsuc n) h = omega (arith, digits-length k (suc n) h)

-- a total: up to year 3 a minus sign and 19 digits; then a minus sign and 10 digits, a space, and 11 digits
pub fair-short : (year : ℤ) (p : Pair) → Fair year p → length (total_text year p) ≤ 23
fair-short year p h = by-test (has_long_sheds year) long short
  where
    sized : Sized (most_newtons year) p
    sized = within-is (most_newtons year) p h

    long : has_long_sheds year ≡ true → length (total_text year p) ≤ 23
    long t =
        let few : nat_abs p.newtons ≤ 16500000 * 240 = rw t at (newtons-small (most_newtons year) p sized) in
        rw (long-total year t p)
        (simp length-append
        (omega (
          arith,
          decimal-size 9 p.newtons (omega arith),
          digits-length 10 p.remainder (omega (arith, sized.proper)),
        )))

    short : has_long_sheds year ≡ false → length (total_text year p) ≤ 23
    short t =
        let small : nat_abs (units p) ≤ 16500000 * 24 * newton = rw t at sized.small in
        rw (short-total year t p) (omega (arith, decimal-size 18 (units p) (omega arith)))

-- the letter, the word, a total, the numbers and the end
module _ (year : ℤ) where
  pub after-length : {n : ℕ} {e : Extreme} → Printable year n e
      → length (after_word year e) ≡ length (total_text year e.total) + (2 * e.faces + 5)
  after-length {n} {e} h =
      let k = length-take e.faces e.alternative in
      simp length-append (omega (arith, spaced-digits (case_numbers e) h.digits, h.counted, k))

  pub axis-length : (letter : ℕ) (e : Extremes)
      → length (axis_text year letter e)
      ≡ length (after_word year e.greatest) + length (after_word year e.least) + 12
  unfolding axis_text extreme_text
  axis-length letter e = simp length-append (omega arith)

  pub six-length : (six : Six)
      → length (six_text year six)
      ≡ length (axis_text year x six.x) + length (axis_text year y six.y) + length (axis_text year z six.z)
  six-length six = rw (six-parts year) (simp length-append (omega arith))

  module _ (n : ℕ) where
    line-most : (e : Extreme) → Printable year n e → length (after_word year e) ≤ 2 * n + 28
    line-most e h = omega (arith, after-length h, h.few, fair-short year e.total h.total)

    axis-most : (e : Extremes) → Both (Printable year n) e → (letter : ℕ)
        → length (axis_text year letter e) ≤ 4 * n + 68
    axis-most e h letter =
        omega (arith, axis-length letter e, line-most e.greatest h.0, line-most e.least h.1)

    pub six-most : (six : Six) → AllSix (Printable year n) six → length (six_text year six) ≤ 12 * n + 204
    six-most six h =
        omega (
          arith,
          six-length six,
          axis-most six.x h.0 x,
          axis-most six.y h.1 y,
          axis-most six.z h.2 z,
        )

-- what is printable with so many faces is with more
pub all_more : (year : ℤ) (n m : ℕ) → n ≤ m → (six : Six) → AllSix (Printable year n) six
    → AllSix (Printable year m) six
all_more year n m l six h = (both six.x h.0, both six.y h.1, both six.z h.2)
  where
    more : (e : Extreme) → Printable year n e → Printable year m e
    more e p = record { few = omega (arith, p.few); counted = p.counted; digits = p.digits; total = p.total }

    both : (e : Extremes) → Both (Printable year n) e → Both (Printable year m) e
    both e p = (more e.greatest p.0, more e.least p.1)

-- of 240 faces at most
pub report-most : (c : Carried) → InOrder c → length (report_text c) ≤ 3084
unfolding report_text
report-most c o =
    let p = report-prints c o in
    omega (arith, six-most c.year (faces_shown (six_extremes c)) (six_extremes c) p.all, p.few)
