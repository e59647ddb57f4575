-- The fault of a line by its two parts: its form, and then the faults of its entry.
use mathlib.Core.Path.{◌≡◌, ◌∙◌, sym}
use mathlib.Core.List.{List}
use mathlib.Core.Bool.{true, false}
use native.Mathlib.Omega.{arith}
use lib.Dec.{T}
use Rattle.whole.specs.Lists.{Every}
use Rattle.whole.proofs.Tests.{by-test}
use Rattle.field.specs.declared.Field.{Field}
use Rattle.building.specs.Fault.{Fault, first}
use Rattle.rules.specs.declared.Before.{Before}
use Rattle.rules.specs.declared.Section.TheVariants.{«V», B, W, I, P, F}
use Rattle.rules.specs.declared.Kind.{Kind}
use Rattle.rules.specs.declared.Kind.TheVariants.{Count, Entry}
use Rattle.rules.specs.Form.{in_form}
use Rattle.rules.specs.Sections.{forms_by, faults_of, line_fault}
use Rattle.rules.proofs.Form.{AllFormed, in-formed, formed-in}
use Rattle.rules.proofs.Rising.{rising, none_found, found_none}

-- each kind of line has its faults by rising number
pub faults-rise : (k : Kind) (b : Before) (fs : List Field) → T (rising 1 (faults_of k b fs))
faults-rise (Count s) b fs = tt
faults-rise (Entry «V») b fs = tt
faults-rise (Entry B) b fs = tt
faults-rise (Entry W) b fs = tt
faults-rise (Entry I) b fs = tt
faults-rise (Entry P) b fs = tt
faults-rise (Entry F) b fs = tt

module _ (k : Kind) (b : Before) (fs : List Field) where
  pub fault-out : in_form (forms_by b k) fs ≡ false → line_fault k b fs ≡ 1
  unfolding line_fault
  fault-out h = rw h

  pub fault-in : in_form (forms_by b k) fs ≡ true → line_fault k b fs ≡ first (faults_of k b fs)
  unfolding line_fault
  fault-in h = rw h

  -- in order: in form, and no fault is found
  pub record LineInOrder : Type 0 where
    pub formed : AllFormed (forms_by b k) fs
    pub none : Every (λ (f : Fault). f.found ≡ false) (faults_of k b fs)

  pub in_order : line_fault k b fs ≡ 0 → LineInOrder
  in_order z =
      by-test (in_form (forms_by b k) fs)
      (λ e.
      record {
        formed = in-formed (forms_by b k) fs e;
        none = none_found 1 (faults_of k b fs) (omega arith) (faults-rise k b fs) (sym (fault-in e) ∙ z);
      })
      (λ e. absurd (omega (arith, fault-out e)))

  pub order-in : LineInOrder → line_fault k b fs ≡ 0
  order-in o = fault-in (formed-in o.formed) ∙ found_none (faults_of k b fs) o.none
