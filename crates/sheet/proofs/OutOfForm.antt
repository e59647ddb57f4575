-- Lines that are out of form whatever line is called for, so that they get 1.
use Prim.Native.Nat.{ℕ, ◌≤◌, ◌<◌}
use mathlib.Core.Path.{◌≡◌, refl, subst}
use mathlib.Core.Logic.{⊎_elim}
use mathlib.Core.Bool.{Bool, true, false}
use mathlib.Core.List.{List, [], ◌∷◌}
use native.Mathlib.Omega.{arith}
use lib.ListN.{length}
use Rattle.whole.proofs.Lists.{every-at}
use Rattle.whole.proofs.Tests.{by-test}
use Rattle.field.specs.declared.Field.{Field}
use Rattle.field.specs.declared.Field.TheVariants.{Bad}
use Rattle.lines.specs.Lines.{fields_of, NotBad}
use Rattle.building.specs.Year.{has_heights}
use Rattle.rules.specs.declared.Before.{Before}
use Rattle.rules.specs.declared.Section.TheVariants.{«V», B, W, I, P, F}
use Rattle.rules.specs.declared.Kind.{Kind}
use Rattle.rules.specs.declared.Kind.TheVariants.{Count, Entry}
use Rattle.rules.specs.Form.{in_form}
use Rattle.rules.specs.Sections.{forms, forms_by, line_fault}
use Rattle.rules.proofs.Form.{in-formed, uneven-out}
use Rattle.rules.proofs.Line.{fault-out}
use Rattle.job.proofs.Lines.{all-not-bad}
use Rattle.sheet.proofs.Bytes.{BadAt, line-short}

-- a line has from one to six fields
pub fields : (h : Bool) (k : Kind) → (0 < length (forms h k)) × (length (forms h k) ≤ 6)
fields h (Count s) = (omega arith, omega arith)
fields h (Entry «V») = (omega arith, omega arith)
fields h (Entry B) = (omega arith, omega arith)
fields h (Entry W) = (omega arith, omega arith)
fields h (Entry I) = (omega arith, omega arith)
fields h (Entry P) = (omega arith, omega arith)
fields true (Entry F) = (omega arith, omega arith)
fields false (Entry F) = (omega arith, omega arith)

module _ (k : Kind) (b : Before) where
  -- with a field out of form
  bad-line : (x : List Field) → BadAt x → line_fault k b x ≡ 1
  bad-line x y =
      fault-out k b x (by-test (in_form (forms_by b k) x)
      (λ e. absurd
      (subst NotBad y.bad (every-at NotBad x Bad y.place y.within (all-not-bad (in-formed
      (forms_by b k) x e)))))
      (λ e. e))

  -- not ended
  pub bad-first : line_fault k b (Bad ∷ []) ≡ 1
  bad-first = bad-line (Bad ∷ []) (record { place = 0; within = omega arith; bad = refl })

  -- of no field, of more than six
  pub none-held : line_fault k b [] ≡ 1
  none-held = fault-out k b [] (uneven-out (forms_by b k) [] (λ e. omega (arith, (fields (has_heights b.year) k).0)))

  pub many-held : (x : List Field) → 6 < length x → line_fault k b x ≡ 1
  many-held x h = fault-out k b x (uneven-out (forms_by b k) x (λ e. omega (arith, (fields (has_heights b.year) k).1)))

  -- of more than 53 bytes: six fields of 8 with five spaces have no more
  pub line-long : (l : List ℕ) → 53 < length l → line_fault k b (fields_of l) ≡ 1
  line-long l h = ⊎_elim (bad-line (fields_of l)) (λ s. many-held (fields_of l) (omega arith)) (line-short l)
