-- The fault of an entry of a record, as it would be written: 1 where one of its numbers is too long, and else that of
-- the entry itself.
use Prim.Native.Nat.{ℕ, suc}
use mathlib.Core.Path.{◌≡◌, refl, sym, ap, ◌∙◌}
use mathlib.Core.Bool.{Bool, true, false, cond, not, ◌&&◌, ◌||◌}
use mathlib.Core.List.{List, [], ◌∷◌}
use lib.IntN.{ℤ, pos, negsuc}
use native.Mathlib.Omega.{arith}
use borrow.Author.Tests.{ne_eqb}
use Rattle.whole.proofs.Tests.{by-test}
use Rattle.field.specs.declared.Field.{Field}
use Rattle.field.specs.declared.Field.TheVariants.{Letter}
use Rattle.building.specs.declared.Building.{Building}
use Rattle.building.specs.Test.{is, too_long}
use Rattle.building.specs.Fault.{first}
use Rattle.building.specs.Building.{faults, out_of_form, building_fault, given_fault}
use Rattle.rules.specs.declared.Before.{Before}
use Rattle.rules.specs.declared.FieldForm.TheVariants.{Capital, Number, Mark}
use Rattle.rules.specs.declared.Section.TheVariants.{«V», B, W, I, P, F}
use Rattle.rules.specs.declared.Kind.{Kind}
use Rattle.rules.specs.declared.Kind.TheVariants.{Entry}
use Rattle.entry.specs.declared.Wind.{Wind}
use Rattle.entry.specs.declared.Step.{Step}
use Rattle.entry.specs.declared.Face.{Face}
use Rattle.building.specs.Year.{has_heights}
use Rattle.entry.specs.Says.{both, carried_face}
use Rattle.rules.specs.Form.{is_number, has_form, in_form, number_forms}
use Rattle.rules.specs.Faults.{year_faults, wind_faults, internal_faults, step_faults, face_faults}
use Rattle.rules.specs.Sections.{forms, forms_by, faults_of, line_fault}
use Rattle.entry_written.specs.Fields.{signed, number_field, mark_field, year_fields, building_fields, wind_fields}
use Rattle.entry_written.specs.Fields.{internal_fields, step_fields, face_fields}
use Rattle.rules.proofs.Form.{in-formed}
use Rattle.rules.proofs.Line.{fault-out, fault-in}
use Rattle.job.proofs.Lines.{signed_back, year-back, building-back, wind-back, internal-back, step_back}
use Rattle.job.proofs.Lines.{face-back}

-- ---- the form of a value's field

signed-number : (z : ℤ) → is_number (signed z) ≡ true
signed-number (pos n) = refl
signed-number (negsuc n) = ap not (ne_eqb (suc n) 0 (λ e. omega arith))

number-form : (z : ℤ) → has_form Number (number_field z) ≡ not (too_long z)
unfolding has_form number_field
number-form z = by-test (too_long z) (λ e. rw e) (λ e. rw (e, signed-number z, signed_back z, e))

abbrev pub mark_too_long : ℤ → Bool
mark_too_long z = not (is both z) && too_long z

undashed : (z : ℤ) → has_form Mark (signed z) ≡ has_form Number (signed z)
unfolding has_form
undashed (pos n) = refl
undashed (negsuc n) = refl

mark-form : (z : ℤ) → has_form Mark (mark_field z) ≡ not (mark_too_long z)
unfolding has_form mark_field number_field
mark-form z =
    by-test (is both z) (λ e. rw e)
    (λ e. rw e (by-test (too_long z) (λ k. rw k) (λ k. rw k (undashed z ∙ rw (signed-number z, signed_back z, k)))))

letter-form : (b : ℕ) → has_form Capital (Letter b) ≡ true
unfolding has_form
letter-form b = refl

-- ---- the fault of a value's line

abbrev pub any : List Bool → Bool
any [] = false
any (t ∷ ts) = t || any ts

abbrev none : List Bool → Bool
none [] = true
none (t ∷ ts) = not t && none ts

none_any : (ts : List Bool) → none ts ≡ not (any ts)
none_any [] = refl
none_any (true ∷ ts) = refl
none_any (false ∷ ts) = none_any ts

-- it is in form where none of its numbers is too long, and its entry then has number n
given_by : (k : Kind) (b : Before) (fs : List Field) (ts : List Bool) (n : ℕ) → in_form (forms_by b k) fs ≡ none ts
    → (in_form (forms_by b k) fs ≡ true → first (faults_of k b fs) ≡ n) → line_fault k b fs ≡ cond (any ts) 1 n
given_by k b fs ts n e h =
    by-test (any ts) (λ q. fault-out k b fs (e ∙ none_any ts ∙ ap not q) ∙ rw q)
    (λ q. let y = e ∙ none_any ts ∙ ap not q in fault-in k b fs y ∙ h y ∙ rw q)

-- the building of a record has the fault of its line
pub building-given : (g : Building) (b : Before) → given_fault b.year g ≡ line_fault (Entry B) b (building_fields g)
unfolding given_fault out_of_form building_fault in_form
building-given g b =
    sym (given_by (Entry B) b (building_fields g) long (first (faults b.year g))
    (rw (
      number-form g.h,
      number-form g.a,
      number-form g.b,
      number-form g.density,
      number-form g.kind,
      number-form g.x,
    ))
    (λ e.
    ap (λ (h : Building). first (faults b.year h))
    (building-back g (in-formed (number_forms 6) (building_fields g) e))))
  where
    long : List Bool
    long =
        too_long g.h ∷ too_long g.a ∷ too_long g.b ∷ too_long g.density ∷ too_long g.kind ∷ too_long g.x ∷
        []

-- so has each entry
module _ (b : Before) where
  pub year-given : (y : ℤ) → line_fault (Entry «V») b (year_fields y) ≡ cond (too_long y || false) 1 (first
      (year_faults y))
  unfolding in_form
  year-given y =
      given_by (Entry «V») b (year_fields y) (too_long y ∷ []) (first (year_faults y)) (rw (number-form y))
      (λ e. ap (λ (z : ℤ). first (year_faults z)) (year-back y (in-formed (number_forms 1) (year_fields y) e)))

  pub wind-given : (w : Wind)
      → line_fault (Entry W) b (wind_fields w) ≡ cond (too_long w.direction || (too_long w.speed || false)) 1
      (first (wind_faults b.building w))
  unfolding in_form
  wind-given w =
      given_by (Entry W) b (wind_fields w) (too_long w.direction ∷ too_long w.speed ∷ [])
      (first (wind_faults b.building w))
      (rw (number-form w.direction, number-form w.speed))
      (λ e. ap (λ (v : Wind). first (wind_faults b.building v))
      (wind-back w (in-formed (number_forms 2) (wind_fields w) e)))

  pub internal-given : (i : ℤ)
      → line_fault (Entry I) b (internal_fields i) ≡ cond (too_long i || false) 1 (first (internal_faults i))
  unfolding in_form
  internal-given i =
      given_by (Entry I) b (internal_fields i) (too_long i ∷ []) (first (internal_faults i)) (rw (number-form i))
      (λ e.
      ap (λ (z : ℤ). first (internal_faults z)) (internal-back i (in-formed (number_forms 1) (internal_fields i) e)))

  pub step_given : (s : Step)
      → line_fault (Entry P) b (step_fields s) ≡ cond (too_long s.height || (too_long s.factor || false)) 1
      (first (step_faults b.highest s))
  unfolding in_form
  step_given s =
      given_by (Entry P) b (step_fields s) (too_long s.height ∷ too_long s.factor ∷ [])
      (first (step_faults b.highest s))
      (rw (number-form s.height, number-form s.factor))
      (λ e. ap (λ (t : Step). first (step_faults b.highest t))
      (step_back s (in-formed (number_forms 2) (step_fields s) e)))

-- the numbers of a face that are written: 0 is never too long
abbrev pub long : Face → List Bool
long f = mark_too_long f.mark ∷ too_long f.height ∷ too_long f.x ∷ too_long f.y ∷ too_long f.z ∷ []

face-formed : (h : Bool) (f : Face) → in_form (forms h (Entry F)) (face_fields h f) ≡ none (long (carried_face h f))
unfolding in_form too_long
face-formed true f =
    rw (
      letter-form f.zone,
      mark-form f.mark,
      number-form f.height,
      number-form f.x,
      number-form f.y,
      number-form f.z,
    )
face-formed false f =
    rw (letter-form f.zone, mark-form f.mark, number-form f.x, number-form f.y, number-form f.z)

module _ (b : Before) (f : Face) where
  abbrev h : Bool
  h = has_heights b.year

  pub face-given : line_fault (Entry F) b (face_fields h f) ≡ cond (any (long (carried_face h f))) 1
      (first (face_faults b (carried_face h f)))
  face-given =
      given_by (Entry F) b (face_fields h f) (long (carried_face h f)) (first (face_faults b (carried_face h f)))
      (face-formed h f)
      (λ e. ap (λ (g : Face). first (face_faults b g)) (face-back h f (in-formed (forms h (Entry F))
      (face_fields h f) e)))

-- what the code finds, by what it goes by
pub long-by : {t₁ t₂ t₃ t₄ t₅ u₁ u₂ u₃ u₄ u₅ : Bool} {n m r : ℕ} → t₁ ≡ u₁ → t₂ ≡ u₂ → t₃ ≡ u₃ → t₄ ≡ u₄ → t₅ ≡ u₅
    → n ≡ m
    → r ≡ cond (t₁ || (t₂ || (t₃ || (t₄ || (t₅ || false))))) 1 n
    → r ≡ cond (u₁ || (u₂ || (u₃ || (u₄ || (u₅ || false))))) 1 m
long-by e₁ e₂ e₃ e₄ e₅ q e = e ∙ (λ i. cond (e₁ i || (e₂ i || (e₃ i || (e₄ i || (e₅ i || false))))) 1 (q i))
