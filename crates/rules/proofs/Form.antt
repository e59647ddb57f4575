-- A line is in form exactly if it has a field for each form and each field has its form.
use Prim.Native.Nat.{ℕ, zero, suc, ◌≤◌, ◌<◌}
use mathlib.Core.Path.{◌≡◌, refl, ap}
use mathlib.Core.List.{List, [], ◌∷◌}
use mathlib.Core.Bool.{Bool, true, false, not, ◌&&◌, false≢true}
use native.Mathlib.Omega.{arith}
use lib.Dec.{eqb, ltb}
use lib.IntN.{pos, neg_ℤ, nat_abs}
use lib.ListN.{length, drop, get_or}
use lib.Seq.{drop-cons}
use borrow.Author.Tests.{ne_eqb, eqb-false, le-ltb, ltb-false, not-true}
use Rattle.whole.proofs.Size.{nat_abs-neg}
use Rattle.whole.proofs.Tests.{and-true}
use Rattle.field.specs.declared.Field.{Field}
use Rattle.field.specs.declared.Field.TheVariants.{Bad, Plus, Minus, Letter, Dash}
use Rattle.building.specs.Test.{too_long}
use Rattle.entry.specs.Says.{at}
use Rattle.rules.specs.declared.FieldForm.{FieldForm}
use Rattle.rules.specs.declared.FieldForm.TheVariants.{Capital, Count, Number, Mark}
use Rattle.rules.specs.Form.{is_short, has_form, in_form, number_forms}

-- ---- a field

pub data Formed : FieldForm → Field → Type 0 where
  letter : {b : ℕ} → Formed Capital (Letter b)
  count : {m : ℕ} → Formed Count (Plus m)
  count-below : {m : ℕ} → 0 < m → Formed Count (Minus m)
  plus : {m : ℕ} → m ≤ 9999999 → Formed Number (Plus m)
  minus : {m : ℕ} → 0 < m → m ≤ 9999999 → Formed Number (Minus m)
  dash : Formed Mark Dash
  mark : {f : Field} → Formed Number f → Formed Mark f

some-minus : (m : ℕ) → not (eqb m 0) ≡ true → 0 < m
some-minus m e = omega (arith, eqb-false m 0 (not-true (eqb m 0) e))

short-number : (f : Field) → is_short f ≡ true → Formed Number f
unfolding too_long
short-number (Plus m) e = plus (ltb-false 9999999 m (not-true _ e))
short-number (Minus m) e =
    let t = and-true (not (eqb m 0)) (not (ltb 9999999 (nat_abs (neg_ℤ (pos m))))) e in
    let k = ltb-false 9999999 (nat_abs (neg_ℤ (pos m))) (not-true _ t.1) in
    minus (some-minus m t.0) (omega (arith, nat_abs-neg (pos m)))
short-number (Letter b) e = absurd (false≢true e)
short-number Dash e = absurd (false≢true e)
short-number Bad e = absurd (false≢true e)

has-formed : (w : FieldForm) (f : Field) → has_form w f ≡ true → Formed w f
unfolding has_form
has-formed Capital (Letter b) e = letter
has-formed Capital (Plus m) e = absurd (false≢true e)
has-formed Capital (Minus m) e = absurd (false≢true e)
has-formed Capital Dash e = absurd (false≢true e)
has-formed Capital Bad e = absurd (false≢true e)
has-formed Count (Plus m) e = count
has-formed Count (Minus m) e = count-below (some-minus m e)
has-formed Count (Letter b) e = absurd (false≢true e)
has-formed Count Dash e = absurd (false≢true e)
has-formed Count Bad e = absurd (false≢true e)
has-formed Number f e = short-number f e
has-formed Mark Dash e = dash
has-formed Mark (Plus m) e = mark (short-number (Plus m) e)
has-formed Mark (Minus m) e = mark (short-number (Minus m) e)
has-formed Mark (Letter b) e = absurd (false≢true e)
has-formed Mark Bad e = absurd (false≢true e)

formed-short : {f : Field} → Formed Number f → is_short f ≡ true
unfolding too_long
formed-short (plus {m = m} h) = rw (le-ltb 9999999 m h)
formed-short (minus {m = m} p h) =
    rw (ne_eqb m 0 (λ e. omega arith), le-ltb 9999999 (nat_abs (neg_ℤ (pos m))) (omega (arith, nat_abs-neg (pos m))))

formed-has : {w : FieldForm} {f : Field} → Formed w f → has_form w f ≡ true
unfolding has_form
formed-has letter = refl
formed-has count = refl
formed-has (count-below {m = m} p) = rw (ne_eqb m 0 (λ e. omega arith))
formed-has (plus h) = formed-short (plus h)
formed-has (minus p h) = formed-short (minus p h)
formed-has dash = refl
formed-has (mark (plus h)) = formed-short (plus h)
formed-has (mark (minus p h)) = formed-short (minus p h)

-- ---- a line

pub data AllFormed : List FieldForm → List Field → Type 0 where
  none : AllFormed [] []
  more : {w : FieldForm} {f : Field} {ws : List FieldForm} {fs : List Field} → Formed w f → AllFormed ws fs
      → AllFormed (w ∷ ws) (f ∷ fs)

pub in-formed : (ws : List FieldForm) (fs : List Field) → in_form ws fs ≡ true → AllFormed ws fs
unfolding in_form
in-formed [] [] e = none
in-formed [] (f ∷ fs) e = absurd (false≢true e)
in-formed (w ∷ ws) [] e = absurd (false≢true e)
in-formed (w ∷ ws) (f ∷ fs) e =
    let t = and-true (has_form w f) (in_form ws fs) e in
    more (has-formed w f t.0) (in-formed ws fs t.1)

pub formed-in : {ws : List FieldForm} {fs : List Field} → AllFormed ws fs → in_form ws fs ≡ true
unfolding in_form
formed-in none = refl
formed-in (more h a) = rw (formed-has h, formed-in a)

-- another number of fields
pub uneven-out : (ws : List FieldForm) (fs : List Field) → (length fs ≡ length ws → ⊥) → in_form ws fs ≡ false
unfolding in_form
uneven-out [] [] h = absurd (h refl)
uneven-out [] (f ∷ fs) h = refl
uneven-out (w ∷ ws) [] h = refl
uneven-out (w ∷ ws) (f ∷ fs) h = rw (uneven-out ws fs (λ e. h (ap suc e))) (no-and (has_form w f))
  where
    no-and : (t : Bool) → t && false ≡ false
    no-and true = refl
    no-and false = refl

-- ---- field by field, as the code goes

module _ (ws : List FieldForm) (fs : List Field) (i : ℕ) (h : i < length ws) (k : i < length fs) where
  pub form-on : in_form (drop i ws) (drop i fs) ≡ has_form (get_or ws i Number) (at fs i) && in_form (drop (suc i) ws)
      (drop (suc i) fs)
  unfolding in_form
  form-on = rw (drop-cons ws i Number h, drop-cons fs i Bad k)

-- what stands behind the first fields of a line is numbers
pub numbers-at : (n i : ℕ) → Number ≡ get_or (number_forms n) i Number
numbers-at zero i = refl
numbers-at (suc n) zero = refl
numbers-at (suc n) (suc i) = numbers-at n i

pub numbers-behind : (v w : FieldForm) (n i : ℕ) → (i ≡ 0 → ⊥) → (i ≡ 1 → ⊥)
    → Number ≡ get_or (v ∷ w ∷ number_forms n) i Number
numbers-behind v w n zero h k = absurd (h refl)
numbers-behind v w n (suc zero) h k = absurd (k refl)
numbers-behind v w n (suc (suc i)) h k = numbers-at n i
