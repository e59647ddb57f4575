-- One verdict after another: the later counts exactly where the earlier accepts.
use mathlib.Core.Path.{◌≡◌, refl}
use mathlib.Core.Bool.{Bool, true, false}
use lib.Dec.{eqb}
use borrow.Author.Tests.{eq-eqb, ne_eqb, eqb-true, eqb-false}
use Rattle.verdict.specs.declared.Verdict.{Verdict}
use Rattle.verdict.specs.Verdict.{◌or_then◌, Refuses}

module _ (v w : Verdict) where
  pub then-later : v.number ≡ 0 → (v or_then w) ≡ w
  then-later e = rw (eq-eqb v.number 0 e)

  pub then-earlier : Refuses v → (v or_then w) ≡ v
  then-earlier h = rw (ne_eqb v.number 0 h)

  -- where both come to nothing, each accepts
  pub then-passed : (v or_then w).number ≡ 0 → (v.number ≡ 0) × (w.number ≡ 0)
  then-passed e = go (eqb v.number 0) refl
    where
      go : (t : Bool) → eqb v.number 0 ≡ t → (v.number ≡ 0) × (w.number ≡ 0)
      go true q = (eqb-true _ 0 q, rw q at e)
      go false q = absurd (eqb-false _ 0 q (rw q at e))
