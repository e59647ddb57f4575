-- The spot that the code finds, by what it goes by.
use mathlib.Core.Path.{◌≡◌, ◌∙◌}
use mathlib.Core.Bool.{Bool, cond}
use Prim.Native.Nat.{ℕ}
use lib.Dec.{eqb}
use lib.IntN.{ℤ, pos}
use Rattle.whole.proofs.Tests.{by-test}
use Rattle.building.specs.declared.Spot.{Spot}
use Rattle.building.specs.Year.{has_heights}
use Rattle.building.specs.Fault.{ranged, spot, spot_of}
use Rattle.entry.specs.declared.Step.{Step}
use Rattle.entry.specs.declared.Face.{Face}
use Rattle.rules.specs.declared.Before.{Before}
use Rattle.rules.specs.Faults.{height_fault, area_fault, height_field, area_field, step_faults, face_faults}

pub spot-or : {t u : Bool} {here at next later r : Spot} → t ≡ u → here ≡ at → next ≡ later → r ≡ cond t here next
    → r ≡ cond u at later
spot-or p q s e = e ∙ (λ i. cond (p i) (q i) (s i))

-- the spot of a field that is asked for; once it was, it is not asked for again
pub at-or : (field own : ℕ) {here at next later r : Spot} → here ≡ at → next ≡ later
    → r ≡ cond (eqb field own) here next
    → r ≡ cond (eqb field own) at later
at-or field own q s e = e ∙ (λ i. cond (eqb field own) (q i) (s i))

pub step_field : (field : ℕ) (highest : ℤ) (t : Step)
    → cond (eqb field 1) (height_fault 1 t.height).place
    (cond (eqb field 2) (ranged 2 (pos 1) (pos 1000)) (spot field))
    ≡ spot_of field (step_faults highest t)
unfolding spot_of
step_field field highest t = by-test (eqb field 1) (λ e. rw e) (λ e. rw e)

module _ (field : ℕ) (b : Before) (f : Face) where
  abbrev tall : Bool
  tall = has_heights b.year

  abbrev areas : Spot
  areas =
      cond (eqb field (area_field tall 0)) (area_fault (area_field tall 0) f.x).place
      (cond (eqb field (area_field tall 1)) (area_fault (area_field tall 1) f.y).place
      (cond (eqb field (area_field tall 2)) (area_fault (area_field tall 2) f.z).place (spot field)))

  pub face-field : cond (eqb field 1) (spot 1) (cond (eqb field 2) (spot 2)
      (cond (eqb field (height_field tall)) (height_fault (height_field tall) f.height).place areas))
      ≡ spot_of field (face_faults b f)
  unfolding spot_of
  face-field =
      by-test (eqb field 1) (λ e. rw e)
      (λ e. by-test (eqb field 2) (λ g. rw (e, g))
      (λ g. by-test (eqb field (height_field tall)) (λ h. rw (e, g, h)) (λ h. rw (e, g, h))))
