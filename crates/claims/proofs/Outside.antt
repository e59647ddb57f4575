-- What aral_where tells beside a number is a range that the number is outside of.
use Prim.Native.Nat.{ℕ, suc, ◌+◌, ◌-◌, ◌*◌, ◌/◌, ◌<◌, min}
use mathlib.Core.Path.{◌≡◌, refl, sym, ap, ◌∙◌}
use mathlib.Core.Logic.{⊎_elim}
use mathlib.Core.Bool.{Bool, true, false, not, cond, ◌||◌, true≢false}
use mathlib.Core.List.{List, [], ◌∷◌}
use native.Mathlib.Nat.{min-le_right, div-one, le-div_iff_mul-le, div-lt_iff_lt-mul}
use native.Mathlib.Omega.{arith}
use lib.Dec.{ltb}
use lib.IntN.{ℤ, pos, negsuc, nat_abs}
use lib.Signed.{lt_z}
use borrow.Author.Tests.{not-true, eqb-false, lt-ltb, le-ltb, ltb-true, ltb-false, leb-false}
use Rattle.whole.proofs.Tests.{by-test, or-true, or-false}
use Rattle.field.specs.declared.Field.{Field}
use Rattle.building.specs.Test.{is, beyond}
use Rattle.building.specs.Places.{knows}
use Rattle.building.specs.declared.Building.{Building}
use Rattle.building.specs.Ratio.{up_to}
use Rattle.building.specs.Roof.{roof_of, along_of, across_of}
use Rattle.building.specs.Building.{most_length, begun, most_slender, most_oblong, out_of_walls, out_of_roof, sizes}
use Rattle.building.specs.Building.{faults}
use Rattle.building.specs.Building.{walls_spot, roof_spot, rounded_up}
use Rattle.building.specs.Year.{has_heights, has_squares}
use Rattle.building.proofs.Accepted.{within}
use Rattle.building.specs.Fault.{Fault, first, first_spot}
use Rattle.entry.specs.Says.{number, at, is_dash, mark, both, building_of, wind_of, step_of, face_of}
use Rattle.rules.specs.declared.Before.{Before}
use Rattle.rules.specs.declared.Section.TheVariants.{«V», B, W, I, P, F}
use Rattle.rules.specs.declared.Kind.{Kind}
use Rattle.rules.specs.declared.Kind.TheVariants.{Count, Entry}
use Rattle.rules.specs.Form.{in_form}
use Rattle.rules.specs.Faults.{next_height, most_height, wind_faults, step_faults, face_faults}
use Rattle.rules.specs.Sections.{forms_by, faults_of, line_fault, line_spot}

-- ---- the statement

-- 2, 3, 4, 5 and 8: faults of a number that stands in the line
abbrev pub OfNumber : ℕ → Type 0
OfNumber n = (n ≡ 0 → ⊥) × (n ≡ 1 → ⊥) × (n ≡ 6 → ⊥)

-- with these the number that stands in the field is outside the range that is told; with 0 and 0, it is not 0
abbrev pub ToldOutside : Type 0
ToldOutside = (k : Kind) (b : Before) (fs : List Field) → in_form (forms_by b k) fs ≡ true
    → OfNumber (line_fault k b fs)
    → let p = line_spot k b fs in
    beyond p.least p.greatest (number (at fs (p.field - 1))) ≡ true

-- ---- the proof

-- the first fault of a list, by what stands in a field
module _ (stands : ℕ → ℤ) where
  abbrev Told : Fault → Type 0
  Told f = OfNumber f.number → beyond f.place.least f.place.greatest (stands f.place.field) ≡ true

  abbrev ToldFirst : List Fault → Type 0
  ToldFirst fs =
      OfNumber (first fs) → beyond (first_spot fs).least (first_spot fs).greatest (stands (first_spot fs).field) ≡ true

  -- each fault, where those before it are not found
  abbrev EachTold : List Fault → Type 0
  EachTold [] = Unit
  EachTold (f ∷ fs) = (f.found ≡ true → Told f) × (f.found ≡ false → EachTold fs)

  each-told : (fs : List Fault) → EachTold fs → ToldFirst fs
  unfolding first_spot
  each-told [] t h = absurd (h.0 refl)
  each-told (f ∷ fs) t h =
      by-test f.found (λ e. rw e (t.0 e (rw e at h))) (λ e. rw e (each-told fs (t.1 e) (rw e at h)))

low : (least greatest z : ℤ) → lt_z z least ≡ true → beyond least greatest z ≡ true
unfolding beyond
low least greatest z e = rw e

high : (least greatest z : ℤ) → lt_z greatest z ≡ true → beyond least greatest z ≡ true
unfolding beyond
high least greatest z e = by-test (lt_z z least) (λ t. rw t) (λ t. rw (t, e))

-- ---- winds

not-zero : (z : ℤ) → is (pos 0) z ≡ false → beyond (pos 0) (pos 0) z ≡ true
not-zero (pos n) e = high (pos 0) (pos 0) (pos n) (lt-ltb 0 n (omega (arith, eqb-false n 0 e)))
not-zero (negsuc n) e = low (pos 0) (pos 0) (negsuc n) refl

unknown : (kind d : ℤ) → knows kind d ≡ false → beyond (pos 0) (pos 0) d ≡ true
unfolding knows
unknown kind d e = not-zero d (or-false (is (pos 0) d) _ e).0

-- the number in a field of a line
abbrev standing : List Field → ℕ → ℤ
standing fs i = number (at fs (i - 1))

wind-told : (b : Before) (fs : List Field) → EachTold (standing fs) (wind_faults b.building (wind_of fs))
wind-told b fs =
    (λ e h. unknown b.building.kind (number (at fs 0)) (not-true _ e), λ n. (λ e h. e, λ m. tt))

-- ---- the profile

-- a height in its range that does not rise
falling : (highest z : ℤ) → beyond (pos 0) most_height z ≡ false → lt_z highest z ≡ false
    → beyond (next_height highest) most_height z ≡ true
falling (negsuc h) (pos z) n e = absurd (true≢false e)
falling highest (negsuc z) n e = absurd (true≢false (sym (low (pos 0) most_height (negsuc z) refl) ∙ n))
falling (pos h) (pos z) n e =
    let w = within 0 30000 (pos z) n in
    let l = ltb-false h z e in
    rw (le-ltb h 0 (omega arith))
    (by-test (ltb h 30000) (λ t. rw t (low _ most_height (pos z) (lt-ltb z (h + 1) (omega arith))))
    (λ t. rw t (low _ most_height (pos z) (lt-ltb z 30001 (omega (arith, w.to))))))

step-told : (b : Before) (fs : List Field) → EachTold (standing fs) (step_faults b.highest (step_of fs))
step-told b fs = (
  λ e h. e,
  λ n. (λ e h. falling b.highest (number (at fs 0)) n (not-true _ e), λ m. (λ e h. e, λ k. tt)),
)

-- ---- faces

marked : (kind : ℤ) (f : Field) → not (is both (mark f) || knows kind (mark f)) ≡ true
    → beyond (pos 0) (pos 0) (number f) ≡ true
marked kind f e =
    by-test (is_dash f)
    (λ d. absurd (let q : not (is both both || knows kind both) ≡ true = rw d at e in true≢false (sym q)))
    (λ d.
    let q : not (is both (number f) || knows kind (number f)) ≡ true = rw d at e in
    unknown kind (number f) (or-false (is both (number f)) _ (not-true _ q)).1)

face-told : (b : Before) (fs : List Field)
    → EachTold (standing fs) (face_faults b (face_of (has_heights b.year) fs))
unfolding beyond
face-told b fs =
    let kind = b.building.kind in
    by-test (has_heights b.year)
    (λ t.
    rw t (
      λ e h. absurd (h.1 refl),
      λ n₁. (
        λ e h. marked kind (at fs 1) e,
        λ n₂. (
          λ e h. e,
          λ n₃. (
            λ e h. e,
            λ n₄. (
              λ e h. e,
              λ n₅. (
                λ e h. e,
                λ n₆. (
                  λ e h. absurd (h.2 refl),
                  λ n₇. (λ e h. absurd (h.2 refl), λ n₈. (λ e h. e, λ n₉. tt)),
                ),
              ),
            ),
          ),
        ),
      ),
    ))
    (λ t.
    rw t (
      λ e h. absurd (h.1 refl),
      λ n₁. (
        λ e h. marked kind (at fs 1) e,
        λ n₂. (
          λ e h. absurd (true≢false (sym e)),
          λ n₃. (
            λ e h. e,
            λ n₄. (
              λ e h. e,
              λ n₅. (
                λ e h. e,
                λ n₆. (
                  λ e h. absurd (h.2 refl),
                  λ n₇. (λ e h. absurd (h.2 refl), λ n₈. (λ e h. absurd (true≢false (sym e)), λ n₉. tt)),
                ),
              ),
            ),
          ),
        ),
      ),
    ))

-- ---- the building

module _ (z : ℤ) (plain : pos (nat_abs z) ≡ z) where
  below : (least : ℕ) (greatest : ℤ) → nat_abs z < least → beyond (pos least) greatest z ≡ true
  below least greatest h = low (pos least) greatest z (ap (λ (y : ℤ). lt_z y (pos least)) (sym plain) ∙ lt-ltb _ _ h)

  above : (least : ℤ) (greatest : ℕ) → greatest < nat_abs z → beyond least (pos greatest) z ≡ true
  above least greatest h =
      high least (pos greatest) z (ap (λ (y : ℤ). lt_z (pos greatest) y) (sym plain) ∙ lt-ltb _ _ h)

capped : (times b n : ℕ) → times * b < n → min most_length (times * b / 1) < n
capped times b n h = omega (arith, min-le_right most_length (times * b / 1), div-one (times * b))

walls-told : (year : ℤ) (g : Building) → pos (nat_abs g.h) ≡ g.h → pos (nat_abs g.a) ≡ g.a
    → (stands : ℕ → ℤ) → stands 1 ≡ g.h → stands 2 ≡ g.a → out_of_walls year (sizes g) ≡ true
    → let p = walls_spot year (sizes g) in
    beyond p.least p.greatest (stands p.field) ≡ true
unfolding walls_spot out_of_walls
walls-told year g ph pa stands eh ea e =
    let h = nat_abs g.h in
    let a = nat_abs g.a in
    let b = nat_abs g.b in
    by-test (up_to h b most_slender)
    (λ t.
    rw (t, ea)
    (⊎_elim
    (λ n. by-test (has_squares year)
    (λ q. rw q (below g.a pa b _ (leb-false b a (rw q at (not-true (begun year a b) n)))))
    (λ q. rw q
    (below g.a pa (b + 1) _ (let l = ltb-false b a (rw q at (not-true (begun year a b) n)) in omega arith))))
    (λ n. above g.a pa _ _ (capped 4 b a (let l = leb-false (1 * a) (4 * b) (not-true _ n) in omega arith)))
    (or-true (not (begun year a b)) (not (up_to a b most_oblong)) (rw t at e))))
    (λ t. rw (t, eh) (above g.h ph _ _ (capped 6 b h (let l = leb-false (1 * h) (6 * b) t in omega arith))))

-- x below a least, or above a greatest, in steps of x
roof-told : (g : Building) → pos (nat_abs g.x) ≡ g.x → (stands : ℕ → ℤ) → stands 6 ≡ g.x
    → out_of_roof (sizes g) ≡ true
    → let p = roof_spot (sizes g) in
    beyond p.least p.greatest (stands p.field) ≡ true
unfolding roof_spot out_of_roof
roof-told g px stands ex e =
    let k = nat_abs g.kind in
    let x = nat_abs g.x in
    let n = (roof_of k).least * across_of k (nat_abs g.h) in
    let m = (roof_of k).greatest * across_of k (nat_abs g.h) in
    rw ex
    (⊎_elim (λ l. below g.x px _ _ (under k x n (ltb-true _ _ l)))
    (λ l. above g.x px _ _ (over k x m (ltb-true _ _ l)))
    (or-true (ltb (along_of k x) n) (ltb m (along_of k x)) e))
  where
    under : (k x n : ℕ) → along_of k x < n → x < rounded_up n (along_of k 1)
    under k x n = go (roof_of k).by_height
      where
        go : (t : Bool) → cond t (1000 * x) x < n → x < rounded_up n (cond t (1000 * 1) 1)
        go true h = (le-div_iff_mul-le {k = 1000} {x = suc x} (omega arith)).1 (omega arith)
        go false h = omega (arith, div-one (n + 0))

    over : (k x n : ℕ) → n < along_of k x → n / along_of k 1 < x
    over k x n = go (roof_of k).by_height
      where
        go : (t : Bool) → n < cond t (1000 * x) x → n / cond t (1000 * 1) 1 < x
        go true h = (div-lt_iff_lt-mul {k = 1000} (omega arith)).1 (omega arith)
        go false h = omega (arith, div-one n)

building-told : (year : ℤ) (fs : List Field) → EachTold (standing fs) (faults year (building_of fs))
building-told year fs =
    let g = building_of fs in
    let s = standing fs in (
      λ e h. e,
      λ n₁. (
        λ e h. e,
        λ n₂. (
          λ e h. e,
          λ n₃. (
            λ e h. e,
            λ n₄. (
              λ e h. e,
              λ n₅. (
                λ e h. e,
                λ n₆.
                    let ph = (within 100 30000 g.h n₁).plain in
                    let pa = (within 100 30000 g.a n₂).plain in
                    let px = (within 0 30000 g.x n₆).plain in
                    (λ e h. walls-told year g ph pa s refl refl e, λ n₇. (λ e h. roof-told g px s refl e, λ n₈. tt)),
              ),
            ),
          ),
        ),
      ),
    )

line-told : (k : Kind) (b : Before) (fs : List Field) → EachTold (standing fs) (faults_of k b fs)
line-told (Count s) b fs = (λ e h. absurd (h.1 refl), λ n. (λ e h. e, λ m. tt))
line-told (Entry «V») b fs = (λ e h. e, λ n. tt)
line-told (Entry B) b fs = building-told b.year fs
line-told (Entry W) b fs = wind-told b fs
line-told (Entry I) b fs = (λ e h. e, λ n. tt)
line-told (Entry P) b fs = step-told b fs
line-told (Entry F) b fs = face-told b fs

pub told-outside : ToldOutside
unfolding line_fault line_spot
told-outside k b fs f h =
    rw f (each-told (standing fs) (faults_of k b fs) (line-told k b fs) (rw f at h))
