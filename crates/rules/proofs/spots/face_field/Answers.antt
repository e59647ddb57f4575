-- `spots::face_field`: the fields in their order; those that come again were asked for before.
use Prim.Native.Nat.{ℕ, ◌+◌, ◌≤◌}
use mathlib.Core.Path.{◌≡◌, refl, ap, ◌∙◌}
use mathlib.Core.Bool.{Bool, true, false, cond}
use native.Mathlib.Omega.{arith}
use lib.Dec.{eqb}
use lib.IntN.{ℤ, pos}
use Rattle.whole.proofs.Size.{said}
use Rattle.building.specs.declared.Spot.{Spot}
use Rattle.building.specs.Year.{has_heights}
use Rattle.building.specs.Fault.{ranged}
use Rattle.rules.specs.Faults.{height_field, area_field, area_fault}
use Rattle.rules.proofs.Spotted.{at-or, face-field}
use Rattle.rules.proofs.spots.face_field.Goals.{After-area_field-a, Start}
use Rattle.rules.proofs.spots.face_field.Goals as goal

area-low : (h : Bool) → area_field h 0 ≤ 4
area-low true = omega arith
area-low false = omega arith

-- the fields of the height and the areas
module _ (c : After-area_field-a) where
  abbrev start : Start
  start = (goal.at.After-area_field-a c).Start

  heights : c.has_heights-heights.result ≡ has_heights start.args.b.year
  heights =
      said has_heights start.args.b.year c.has_heights-heights.ensures
      c.struct_told-1.given.0.1

  few : c.area_field-a.result ≤ 4
  few = omega (arith, c.area_field-a.ensures, area-low c.has_heights-heights.result)

  area-at : (i : ℕ) → c.area_field-a.result + i ≡ area_field (has_heights start.args.b.year) i
  area-at i =
      let e = c.area_field-a.ensures ∙ ap (λ (h : Bool). area_field h 0) heights in
      omega (arith, e)

-- an area, as the call has it
area : (field : ℕ) (z : ℤ) {m n : ℕ} {r next later : Spot} → r ≡ cond (eqb field m) (area_fault m z).place next → m ≡ n
    → next ≡ later → r ≡ cond (eqb field n) (area_fault n z).place later
area field z e p q = e ∙ (λ i. cond (eqb field (p i)) (area_fault (p i) z).place (q i))

pub overflow_add-a : goal.overflow_add-a
overflow_add-a c = omega (arith, few c)

pub overflow_add-a-2 : goal.overflow_add-a-2
overflow_add-a-2 c = omega (arith, few (goal.at.overflow_add-a-2 c).After-area_field-a)

pub returns : goal.returns
returns c f =
    let at_area_field_a = (goal.at.returns c).After-area_field-a in
    let n = c.args.field in
    let own = c.height_field.ensures ∙ ap height_field (heights at_area_field_a) in
    let none : c.area_field-a.result ≡ c.area_field-a.result + 0 = omega arith in
    let areas =
    area n f.x (c.area_at-areas.ensures f.x) (none ∙ area-at at_area_field_a 0)
    (area n f.y (c.area_at.ensures f.y) (area-at at_area_field_a 1)
    (area n f.z (c.area_at-z.ensures f.z) (area-at at_area_field_a 2) c.ranged.ensures)) in
    at-or n 1 refl
    (at-or n 2 refl (c.at-height.ensures ∙ (λ i. cond (eqb n (own i)) (ranged (own i) (pos 0) (pos 30000)) (areas i)))
    c.at.ensures)
    c.at-2.ensures
    ∙ face-field n c.args.b f
