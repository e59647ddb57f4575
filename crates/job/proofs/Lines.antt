-- A field in form, written again, is the same field, and what a value's field says is that value; so for the lines of
-- what a sheet carries.
use Prim.Native.Nat.{zero, suc, ◌≤◌}
use mathlib.Core.Path.{◌≡◌, refl, sym}
use mathlib.Core.Bool.{Bool, true, false}
use mathlib.Core.List.{List}
use native.Mathlib.Omega.{arith}
use lib.IntN.{ℤ, pos, negsuc, nat_abs}
use borrow.Author.Tests.{ne_eqb, le-ltb}
use Rattle.whole.specs.Lists.{Every}
use Rattle.whole.proofs.Tests.{by-test}
use Rattle.field.specs.declared.Field.{Field}
use Rattle.lines.specs.Lines.{NotBad}
use Rattle.building.specs.declared.Building.{Building}
use Rattle.building.specs.Test.{is, too_long}
use Rattle.building.proofs.Machine.{is_same}
use Rattle.rules.specs.declared.FieldForm.{FieldForm}
use Rattle.rules.specs.declared.FieldForm.TheVariants.{Number, Mark}
use Rattle.rules.specs.declared.Section.TheVariants.{F}
use Rattle.rules.specs.declared.Kind.TheVariants.{Entry}
use Rattle.entry.specs.declared.Wind.{Wind}
use Rattle.entry.specs.declared.Step.{Step}
use Rattle.entry.specs.declared.Face.{Face}
use Rattle.entry.specs.Says.{number, mark, both, year_of, building_of, wind_of, internal_of, step_of, face_of}
use Rattle.entry.specs.Says.{carried_face}
use Rattle.rules.specs.Form.{number_forms}
use Rattle.rules.specs.Sections.{forms}
use Rattle.entry_written.specs.Fields.{signed, number_field, mark_field, year_fields, building_fields, wind_fields}
use Rattle.entry_written.specs.Fields.{internal_fields, step_fields, face_fields}
use Rattle.rules.proofs.Form as form
use Rattle.rules.proofs.Form.{Formed, AllFormed, none, more}

-- ---- a field in form, written again

pub small-short : (z : ℤ) → nat_abs z ≤ 9999999 → too_long z ≡ false
unfolding too_long
small-short z h = le-ltb 9999999 (nat_abs z) h

short-field : (z : ℤ) → nat_abs z ≤ 9999999 → number_field z ≡ signed z
unfolding number_field
short-field z h = rw (small-short z h)

number-again : {f : Field} → Formed Number f → number_field (number f) ≡ f
number-again (form.plus {m = m} h) = short-field (pos m) h
number-again (form.minus {m = zero} p h) = absurd (omega arith)
number-again (form.minus {m = suc m} p h) = short-field (negsuc m) h

mark-again : {f : Field} → Formed Mark f → mark_field (mark f) ≡ f
unfolding mark_field
mark-again form.dash = refl
mark-again (form.mark (form.plus {m = m} h)) =
    rw (ne_eqb m 4294967295 (λ e. omega arith)) (number-again (form.plus h))
mark-again (form.mark (form.minus {m = zero} p h)) = absurd (omega arith)
mark-again (form.mark (form.minus {m = suc m} p h)) = number-again (form.minus {m = suc m} p h)

-- ---- what a value's field says

pub formed-not-bad : {w : FieldForm} {f : Field} → Formed w f → NotBad f
formed-not-bad form.letter = tt
formed-not-bad form.count = tt
formed-not-bad (form.count-below p) = tt
formed-not-bad (form.plus h) = tt
formed-not-bad (form.minus p h) = tt
formed-not-bad form.dash = tt
formed-not-bad (form.mark (form.plus h)) = tt
formed-not-bad (form.mark (form.minus p h)) = tt

pub all-not-bad : {ws : List FieldForm} {fs : List Field} → AllFormed ws fs → Every NotBad fs
all-not-bad none = tt
all-not-bad (more h a) = (formed-not-bad h, all-not-bad a)

pub signed_back : (z : ℤ) → number (signed z) ≡ z
signed_back (pos n) = refl
signed_back (negsuc n) = refl

number-back : {w : FieldForm} (z : ℤ) → Formed w (number_field z) → number (number_field z) ≡ z
unfolding number_field
number-back z h = by-test (too_long z) (λ e. absurd (rw e at (formed-not-bad h))) (λ e. rw e (signed_back z))

mark-back : (z : ℤ) → Formed Mark (mark_field z) → mark (mark_field z) ≡ z
unfolding mark_field number_field
mark-back z h =
    by-test (is both z) (λ e. rw e (sym (is_same both z e)))
    (λ e. by-test (too_long z) (λ k. absurd (rw (e, k) at (formed-not-bad h))) (λ k. rw (e, k) (plain z)))
  where
    plain : (y : ℤ) → mark (signed y) ≡ y
    plain (pos n) = refl
    plain (negsuc n) = refl

-- ---- an entry in form, written again

pub year-again : {x : List Field} → AllFormed (number_forms 1) x → year_fields (year_of x) ≡ x
year-again (more y none) = cc (number-again y)

pub building-again : {x : List Field} → AllFormed (number_forms 6) x → building_fields (building_of x) ≡ x
building-again (more h (more a (more b (more d (more k (more y none)))))) =
    cc (number-again h, number-again a, number-again b, number-again d, number-again k, number-again y)

pub wind-again : {x : List Field} → AllFormed (number_forms 2) x → wind_fields (wind_of x) ≡ x
wind-again (more d (more v none)) = cc (number-again d, number-again v)

pub internal-again : {x : List Field} → AllFormed (number_forms 1) x → internal_fields (internal_of x) ≡ x
internal-again (more i none) = cc (number-again i)

pub step-again : {x : List Field} → AllFormed (number_forms 2) x → step_fields (step_of x) ≡ x
step-again (more h (more f none)) = cc (number-again h, number-again f)

pub face-again : (h : Bool) {x : List Field} → AllFormed (forms h (Entry F)) x → face_fields h (face_of h x) ≡ x
face-again true (more form.letter (more m (more h (more a (more b (more d none)))))) =
    cc (mark-again m, number-again h, number-again a, number-again b, number-again d)
face-again false (more form.letter (more m (more a (more b (more d none))))) =
    cc (mark-again m, number-again a, number-again b, number-again d)

-- ---- what the fields of a value say

pub year-back : (y : ℤ) → AllFormed (number_forms 1) (year_fields y) → year_of (year_fields y) ≡ y
year-back y (more s none) = number-back y s

pub building-back : (g : Building) → AllFormed (number_forms 6) (building_fields g)
    → building_of (building_fields g) ≡ g
building-back g (more h (more a (more b (more d (more k (more y none)))))) =
    λ i. record {
      h = number-back g.h h i;
      a = number-back g.a a i;
      b = number-back g.b b i;
      density = number-back g.density d i;
      kind = number-back g.kind k i;
      x = number-back g.x y i;
    }

pub wind-back : (w : Wind) → AllFormed (number_forms 2) (wind_fields w) → wind_of (wind_fields w) ≡ w
wind-back w (more d (more v none)) =
    λ i. record { direction = number-back w.direction d i; speed = number-back w.speed v i }

pub internal-back : (z : ℤ) → AllFormed (number_forms 1) (internal_fields z) → internal_of (internal_fields z) ≡ z
internal-back z (more s none) = number-back z s

pub step_back : (s : Step) → AllFormed (number_forms 2) (step_fields s) → step_of (step_fields s) ≡ s
step_back s (more h (more f none)) =
    λ i. record { height = number-back s.height h i; factor = number-back s.factor f i }

-- a face without its height, where the sheet has none
pub face-back : (h : Bool) (f : Face) → AllFormed (forms h (Entry F)) (face_fields h f)
    → face_of h (face_fields h f) ≡ carried_face h f
face-back true f (more l (more m (more h (more a (more b (more d none)))))) =
    λ i. record {
      zone = f.zone;
      mark = mark-back f.mark m i;
      height = number-back f.height h i;
      x = number-back f.x a i;
      y = number-back f.y b i;
      z = number-back f.z d i;
    }
face-back false f (more l (more m (more a (more b (more d none))))) =
    λ i. record {
      zone = f.zone;
      mark = mark-back f.mark m i;
      height = pos 0;
      x = number-back f.x a i;
      y = number-back f.y b i;
      z = number-back f.z d i;
    }
