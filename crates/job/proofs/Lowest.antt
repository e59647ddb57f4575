-- The fault of a line is one that it has, and the lowest of those.
use Prim.Native.Nat.{ℕ, ◌≤◌, ◌<◌}
use mathlib.Core.Path.{sym, ◌∙◌}
use mathlib.Core.List.{List}
use native.Mathlib.Omega.{arith}
use Rattle.whole.proofs.Tests.{by-test}
use Rattle.field.specs.declared.Field.{Field}
use Rattle.rules.specs.declared.Before.{Before}
use Rattle.rules.specs.declared.Kind.{Kind}
use Rattle.rules.specs.Form.{in_form}
use Rattle.rules.specs.Sections.{forms_by, faults_of, line_fault}
use Rattle.rules.proofs.Rising.{first-least, first_found}
use Rattle.rules.proofs.Line.{faults-rise, fault-out, fault-in}
use Rattle.job.specs.FirstFault.{HasFault, out-of-form, found}

module _ (k : Kind) (b : Before) (fs : List Field) where
  -- a line that has a fault has a lowest one, which is at most that
  pub fault-lowest : {n : ℕ} → HasFault n b fs k → (0 < line_fault k b fs) × (line_fault k b fs ≤ n)
  fault-lowest (out-of-form e h) = let q = fault-out k b fs h in (omega arith, omega arith)
  fault-lowest (found h f m t e) =
      let q = fault-in k b fs h in
      let y = first-least 1 (faults_of k b fs) (faults-rise k b fs) f m t in
      (omega (arith, y.0), omega (arith, y.1))

  -- and it has that one
  pub fault-has : 0 < line_fault k b fs → HasFault (line_fault k b fs) b fs k
  fault-has z =
      by-test (in_form (forms_by b k) fs)
      (λ e.
      let q = fault-in k b fs e in
      let y = first_found (faults_of k b fs) (omega arith) in
      found e y.test y.there y.finds (y.same ∙ sym q))
      (λ e. out-of-form (fault-out k b fs e) e)
