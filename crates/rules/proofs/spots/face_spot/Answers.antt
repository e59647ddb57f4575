-- `spots::face_spot`: by the definition's own tests, each number read back as it is.
use Prim.Native.Nat.{ℕ, ◌+◌, ◌^◌, ◌<◌, ◌≤◌}
use mathlib.Core.Path.{◌≡◌, ap, ◌∙◌}
use mathlib.Core.Bool.{Bool, true, false, not, cond, ◌||◌}
use native.Mathlib.Omega.{arith}
use lib.IntN.{ℤ, pos}
use lib.Signed.{mag}
use mir.Syntax.{w64}
use mir.Val.{to_z, of_z}
use Rattle.whole.proofs.Size.{said, returned}
use Rattle.building.specs.declared.Spot.{Spot}
use Rattle.building.specs.Places.{knows}
use Rattle.building.specs.Test.{is, beyond}
use Rattle.building.specs.Year.{has_heights}
use Rattle.building.specs.Fault.{ranged, first_spot}
use Rattle.entry.specs.Says.{both}
use Rattle.rules.specs.Faults.{area_fault, height_field, area_field}
use Rattle.rules.proofs.Spotted.{spot-or}
use Rattle.rules.proofs.spots.face_spot.Goals.{After-area_field-at, Start}
use Rattle.rules.proofs.spots.face_spot.Goals as goal

abbrev area_spot : ℕ → ℤ → Spot → Spot
area_spot field z next = cond (area_fault field z).found (area_fault field z).place next

-- an area as the call has it
area : (z : ℤ) {m n : ℕ} {r next later : Spot} → r ≡ area_spot m (to_z w64 (of_z w64 z)) next → mag z < 2 ^ 63 → m ≡ n
    → next ≡ later → r ≡ area_spot n z later
area z e h p q = e ∙ (λ i. area_spot (p i) ((returned w64 z h).same i) (q i))

area-low : (h : Bool) → area_field h 0 ≤ 4
area-low true = omega arith
area-low false = omega arith

-- the areas' fields
module _ (c : After-area_field-at) where
  abbrev start : Start
  start = (goal.at.After-area_field-at c).Start

  heights : c.has_heights-heights.result ≡ has_heights start.args.b.year
  heights =
      said has_heights start.args.b.year c.has_heights-heights.ensures
      c.struct_told-1.given.0.1

  few : c.area_field-at.result ≤ 4
  few = omega (arith, c.area_field-at.ensures, area-low c.has_heights-heights.result)

  field : (i : ℕ) → c.area_field-at.result + i ≡ area_field (has_heights start.args.b.year) i
  field i =
      let e = c.area_field-at.ensures ∙ ap (λ (h : Bool). area_field h 0) heights in
      omega (arith, e)

pub overflow_add-at : goal.overflow_add-at
overflow_add-at c = omega (arith, few c)

pub overflow_add-at-2 : goal.overflow_add-at-2
overflow_add-at-2 c = omega (arith, few (goal.at.overflow_add-at-2 c).After-area_field-at)

pub returns : goal.returns
unfolding first_spot
returns c =
    let at_area_field_at = (goal.at.returns c).After-area_field-at in
    let f = c.args.f in
    let g = c.args.b.building in
    let q = c.struct_told-2-1.given.1 in
    let marked = said (λ (z' : ℤ). is both z' || knows g.kind z') f.mark c.is_marked.ensures q.0.1 in
    let at =
    c.ranged.ensures
    ∙ ap (λ (i : ℕ). ranged i (pos 0) (pos 30000)) (c.height_field.ensures
    ∙ ap height_field (heights at_area_field_at)) in
    let none : c.area_field-at.result ≡ c.area_field-at.result + 0 = omega arith in
    let areas =
    area f.x c.area_spot-areas.ensures q.1.1.0.1 (none ∙ field at_area_field_at 0)
    (area f.y c.area_spot.ensures q.1.1.1.0.1 (field at_area_field_at 1)
    (area f.z c.area_spot-z.ensures q.1.1.1.1.0.1 (field at_area_field_at 2) c.place_spot.ensures)) in
    spot-or (ap not c.is_zone.ensures) c.ranged-3.ensures
    (spot-or (ap not marked) c.ranged-2.ensures
    (spot-or (said (beyond (pos 0) (pos 30000)) f.height c.beyond.ensures q.1.0.1) at areas
    c.first-height.ensures)
    c.first-mark.ensures)
    c.first.ensures
