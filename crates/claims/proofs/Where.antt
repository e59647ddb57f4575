-- Where a fault lies: an answer about the fault that reading a sheet finds, and about no other.
use mathlib.Core.Path.{◌≡◌, refl, ap, ◌∙◌}
use mathlib.Core.List.{List}
use Prim.Native.Nat.{ℕ}
use native.Mathlib.Omega.{arith}
use borrow.Author.Tests.{ne_eqb}
use Rattle.verdict.specs.declared.Verdict.{Verdict}
use Rattle.field.specs.declared.Field.{Field}
use Rattle.lines.specs.Lines.{lines_in}
use Rattle.job.specs.Walk.{Reading, verdict}
use Rattle.slip.specs.declared.Slip.{Slip}
use Rattle.slip.specs.Slip.{no_slip, slip_on, slip_with, slip_of}
use Rattle.claims.specs.Contract.{Always}
use Rattle.claims.specs.Fault.{Faulty, at, Faultless}
use Rattle.claims.proofs.Contracts as of
use Rattle.claims.proofs.Fault as fault

-- ---- the statements

-- a bad sheet gets the number and line of its first fault, and a good one nothing
pub record WhereAsRead : Type 0 where
  pub faulty : Always of.aral-where.Post (λ κ a r s. (v : Verdict) → Faulty (lines_in a.0.now) v
      → (r.number ≡ v.number) × (r.line ≡ v.line))
  pub faultless : Always of.aral-where.Post (λ κ a r s. Faultless (lines_in a.0.now) → r ≡ no_slip)

-- ---- the proofs

some_number : {xs : List (List Field)} {v : Verdict} → Faulty xs v → v.number ≡ 0 → ⊥
some_number (at f) z = omega (arith, f.some)

told-so : (v : Verdict) (t : List ℕ) → (v.number ≡ 0 → ⊥)
    → ((slip_with v t).number ≡ v.number) × ((slip_with v t).line ≡ v.line)
unfolding slip_with slip_on
told-so v t h = rw (ne_eqb v.number 0 h) (refl, refl)

pub where-as-read : WhereAsRead
unfolding slip_of slip_with
where-as-read =
    record {
      faulty = λ κ a r s p v f.
          let t = a.0.now in
          let e = p ∙ ap (λ (w : Reading). slip_with (verdict w) t) (fault.sheet-faulty t f) in
          let q = told-so v t (some_number f) in
          (ap (λ (x : Slip). x.number) e ∙ q.0, ap (λ (x : Slip). x.line) e ∙ q.1);
      faultless = λ κ a r s p f.
          let t = a.0.now in
          p ∙ ap (λ (w : Reading). slip_with (verdict w) t) (fault.sheet-faultless t f).1;
    }
