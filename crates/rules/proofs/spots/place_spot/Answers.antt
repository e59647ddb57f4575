-- `spots::place_spot`: by the definition's own tests, each number read back as it is.
use Prim.Native.Nat.{ℕ}
use mathlib.Core.Path.{ap, ◌∙◌}
use mathlib.Core.Bool.{not}
use lib.IntN.{ℤ}
use Rattle.whole.proofs.Size.{said, said₂}
use Rattle.building.specs.Places.{zone_on}
use Rattle.building.specs.Year.{has_heights}
use Rattle.building.specs.Fault.{ranged, first_spot}
use Rattle.rules.specs.Faults.{off_profile, height_field}
use Rattle.rules.proofs.Spotted.{spot-or}
use Rattle.rules.proofs.spots.place_spot.Goals as goal

pub returns : goal.returns
unfolding first_spot
returns c =
    let b = c.args.b in
    let t = c.struct_told-1.given in
    let kind = c.struct_told-5-1.given.1.1.1.1.0.1 in
    let off =
    said (off_profile b) c.args.f.height c.off_profile.ensures c.struct_told-2-1.given.1.1.0.1 in
    let field = c.height_field-field.ensures ∙ ap height_field
    (said has_heights b.year c.has_heights.ensures t.0.1) in
    let at =
    said₂ (ranged c.height_field-field.result) b.lowest b.highest c.ranged.ensures t.1.1.0.1
    t.1.1.1.0.1
    ∙ ap (λ (n : ℕ). ranged n b.lowest b.highest) field in
    spot-or (ap not (said (λ (k : ℤ). zone_on k c.args.f.zone) b.building.kind c.zone_on.ensures kind))
    c.ranged-4.ensures
    (spot-or c.unmarked_wall.ensures c.ranged-3.ensures
    (spot-or off at c.ranged-2.ensures c.first-height.ensures)
    c.first-wall.ensures)
    c.first.ensures
