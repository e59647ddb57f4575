-- `spots::field_spot`: each field has a range, and those beyond the line have none.
use mathlib.Core.Path.{refl, ◌∙◌}
use mathlib.Core.Logic.{inl, inr}
use native.Mathlib.Omega.{arith}
use Rattle.building.specs.Fault.{spot_of}
use Rattle.building.proofs.Tested.{other-field, length-field}
use Rattle.building.proofs.spots.field_spot.Goals as goal

pub returns-then-field-eq0 : goal.returns-then-field-eq0
returns-then-field-eq0 c year g = c.ranged.ensures ∙ other-field year g 0 (inl refl) ∙ rw c.if-field-eq0.true

pub returns-then-field-le3 : goal.returns-then-field-le3
returns-then-field-le3 c year g =
    c.ranged-then-field-le3.ensures ∙ length-field year g _ c.if-field-eq0.false (omega (arith, c.if-field-le3.true))

pub returns-then-field-eq4 : goal.returns-then-field-eq4
unfolding spot_of
returns-then-field-eq4 c year g = rw c.if-field-eq4.true c.ranged-then-field-eq4.ensures

pub returns-then-field-eq5 : goal.returns-then-field-eq5
unfolding spot_of
returns-then-field-eq5 c year g = rw c.if-field-eq5.true c.ranged-then-field-eq5.ensures

pub returns-then-field-eq6 : goal.returns-then-field-eq6
unfolding spot_of
returns-then-field-eq6 c year g = rw c.if-field-eq6.true c.ranged-then-field-eq6.ensures

pub returns : goal.returns
returns c year g =
    c.ranged-2.ensures
    ∙ other-field year g _ (inr (omega (arith, c.if-field-eq6.false, c.if-field-eq5.false)))
