-- `building_fault`: each test in its order, and after the ranges the numbers are small enough for the next two.
-- what each test answered, said of the building
use mathlib.Core.Path.{◌≡◌, sym, ap, ◌∙◌, subst}
use mathlib.Core.Bool.{false}
use lib.IntN.{ℤ}
use Rattle.whole.proofs.Size.{said}
use Rattle.building.specs.declared.Sizes.{Sizes}
use Rattle.building.specs.Order.{Ranged}
use Rattle.building.specs.Building.{out_of_range, out_of_walls, out_of_roof, sizes}
use Rattle.building.proofs.Accepted.{fields, ranged}
use Rattle.building.proofs.Tested.{fault-tests}
use Rattle.building.proofs.building_fault.Goals.{After-out_of_roof, After-out_of_walls, After-sizes_of-s}
use Rattle.building.proofs.building_fault.Goals.{Else-out_of_range}
use Rattle.building.proofs.building_fault.Goals as goal

in-range : (c : Else-out_of_range) → out_of_range c.args.d.building ≡ false
in-range c = sym c.out_of_range.ensures ∙ c.if-out_of_range.false

small : (c : After-sizes_of-s) → Ranged c.sizes_of-s.result
small c =
    subst (λ (s : Sizes). Ranged s) (sym c.sizes_of-s.ensures)
    (ranged (fields c.args.d.building (in-range (goal.at.After-sizes_of-s c).Else-out_of_range)))

-- the sizes, and the two tests of them
sized : (c : After-sizes_of-s) → c.sizes_of-s.result ≡ sizes c.args.d.building
sized c = c.sizes_of-s.ensures

walls : (c : After-out_of_walls)
    → let d = c.args.d in
    c.out_of_walls.result ≡ out_of_walls d.year (sizes d.building)
walls c =
    let d = c.args.d in
    said (λ (y : ℤ). out_of_walls y c.sizes_of-s.result) d.year c.out_of_walls.ensures
    c.struct_told-1.given.0.1
    ∙ ap (out_of_walls d.year) (sized (goal.at.After-out_of_walls c).After-sizes_of-s)

roof : (c : After-out_of_roof)
    → c.out_of_roof.result ≡ out_of_roof (sizes c.args.d.building)
roof c = c.out_of_roof.ensures ∙ ap out_of_roof (sized (goal.at.After-out_of_roof c).After-sizes_of-s)

pub returns-then-out_of_range : goal.returns-then-out_of_range
returns-then-out_of_range c =
    let d = c.args.d in
    rw (fault-tests d.year d.building, sym c.out_of_range.ensures ∙ c.if-out_of_range.true)

pub sizes_of-s-requires : goal.sizes_of-s-requires
sizes_of-s-requires c = in-range (goal.at.sizes_of-s-requires c).Else-out_of_range

pub returns-then-out_of_walls : goal.returns-then-out_of_walls
returns-then-out_of_walls c =
    let at_out_of_range = (goal.at.returns-then-out_of_walls c).Else-out_of_range in
    let at_out_of_walls = (goal.at.returns-then-out_of_walls c).After-out_of_walls in
    let d = c.args.d in
    rw (fault-tests d.year d.building, in-range at_out_of_range, sym (walls at_out_of_walls) ∙ c.if-out_of_walls.true)

pub out_of_roof-requires : goal.out_of_roof-requires
out_of_roof-requires c = small (goal.at.out_of_roof-requires c).After-sizes_of-s

pub returns-then-out_of_roof : goal.returns-then-out_of_roof
returns-then-out_of_roof c =
    let d = c.args.d in
    rw (
      fault-tests d.year d.building,
      in-range (goal.at.returns-then-out_of_roof c).Else-out_of_range,
      sym (walls (goal.at.returns-then-out_of_roof c).After-out_of_walls) ∙ c.if-out_of_walls.false,
      sym (roof (goal.at.returns-then-out_of_roof c).After-out_of_roof) ∙ c.if-out_of_roof.true,
    )

pub returns : goal.returns
returns c =
    let d = c.args.d in
    rw (
      fault-tests d.year d.building,
      in-range (goal.at.returns c).Else-out_of_range,
      sym (walls (goal.at.returns c).After-out_of_walls) ∙ c.if-out_of_walls.false,
      sym (roof (goal.at.returns c).After-out_of_roof) ∙ c.if-out_of_roof.false,
    )
