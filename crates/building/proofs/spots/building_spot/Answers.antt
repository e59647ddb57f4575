-- `spots::building_spot`: each test in its order, and where it is found.
use mathlib.Core.Path.{◌≡◌, sym, ap, ◌∙◌, subst}
use mathlib.Core.Bool.{false}
use lib.IntN.{ℤ}
use Rattle.whole.proofs.Size.{said}
use Rattle.building.specs.declared.Dated.{Dated}
use Rattle.building.specs.declared.Sizes.{Sizes}
use Rattle.building.specs.Order.{Ranged}
use Rattle.building.specs.Building.{out_of_range, out_of_walls, out_of_roof, sizes, walls_spot, roof_spot}
use Rattle.building.proofs.Accepted.{fields, ranged}
use Rattle.building.proofs.Tested.{spot-of-range, spot-of-walls, spot-of-roof, spot-of-none}
use Rattle.building.proofs.spots.building_spot.Goals.{After-out_of_roof, After-out_of_walls, After-sizes_of-s}
use Rattle.building.proofs.spots.building_spot.Goals.{Else-out_of_range}
use Rattle.building.proofs.spots.building_spot.Goals as goal

module _ (c : Else-out_of_range) where
  abbrev dated : Dated
  dated = c.args.d

  in-range : out_of_range dated.building ≡ false
  in-range = sym c.out_of_range.ensures ∙ c.if-out_of_range.false

small : (c : After-sizes_of-s) → Ranged c.sizes_of-s.result
small c =
    let at_out_of_range = (goal.at.After-sizes_of-s c).Else-out_of_range in
    subst (λ (s : Sizes). Ranged s) (sym c.sizes_of-s.ensures) (ranged (fields (dated at_out_of_range).building
    (in-range at_out_of_range)))

module _ (c : After-out_of_walls) where
  abbrev sized : After-sizes_of-s
  sized = (goal.at.After-out_of_walls c).After-sizes_of-s

  abbrev of : Dated
  of = dated (goal.at.After-sizes_of-s sized).Else-out_of_range

  walls : c.out_of_walls.result ≡ out_of_walls of.year (sizes of.building)
  walls =
      said (λ (y : ℤ). out_of_walls y sized.sizes_of-s.result) of.year c.out_of_walls.ensures
      c.struct_told-1.given.0.1
      ∙ ap (out_of_walls of.year) sized.sizes_of-s.ensures

module _ (c : After-out_of_roof) where
  abbrev walled : After-out_of_walls
  walled = (goal.at.After-out_of_roof c).After-out_of_walls

  no-walls : out_of_walls (of walled).year (sizes (of walled).building) ≡ false
  no-walls = sym (walls walled) ∙ c.if-out_of_walls.false

  roof : c.out_of_roof.result ≡ out_of_roof (sizes (of walled).building)
  roof = c.out_of_roof.ensures ∙ ap out_of_roof walled.sizes_of-s.ensures

pub returns-then-out_of_range : goal.returns-then-out_of_range
returns-then-out_of_range c =
    let d = c.args.d in
    c.field_spot.ensures d.year d.building
    ∙ sym (c.range_field.ensures d.year)
    ∙ spot-of-range d.year d.building (sym c.out_of_range.ensures ∙ c.if-out_of_range.true)

pub sizes_of-s-requires : goal.sizes_of-s-requires
sizes_of-s-requires c = in-range (goal.at.sizes_of-s-requires c).Else-out_of_range

pub returns-then-out_of_walls : goal.returns-then-out_of_walls
returns-then-out_of_walls c =
    let at_out_of_range = (goal.at.returns-then-out_of_walls c).Else-out_of_range in
    let at_out_of_walls = (goal.at.returns-then-out_of_walls c).After-out_of_walls in
    let d = of at_out_of_walls in
    said (λ (y : ℤ). walls_spot y c.sizes_of-s.result) d.year c.walls_spot.ensures
    c.struct_told-then-out_of_walls-1.given.0.1
    ∙ ap (walls_spot d.year) c.sizes_of-s.ensures
    ∙ spot-of-walls d.year d.building (in-range at_out_of_range) (sym (walls at_out_of_walls) ∙ c.if-out_of_walls.true)

pub out_of_roof-requires : goal.out_of_roof-requires
out_of_roof-requires c = small (goal.at.out_of_roof-requires c).After-sizes_of-s

pub roof_spot-requires : goal.roof_spot-requires
roof_spot-requires c = small (goal.at.roof_spot-requires c).After-sizes_of-s

pub returns-then-out_of_roof : goal.returns-then-out_of_roof
returns-then-out_of_roof c =
    let at_out_of_range = (goal.at.returns-then-out_of_roof c).Else-out_of_range in
    let at_out_of_roof = (goal.at.returns-then-out_of_roof c).After-out_of_roof in
    let d = of (goal.at.returns-then-out_of_roof c).After-out_of_walls in
    c.roof_spot.ensures
    ∙ ap roof_spot c.sizes_of-s.ensures
    ∙ spot-of-roof d.year d.building (in-range at_out_of_range) (no-walls at_out_of_roof)
    (sym (roof at_out_of_roof) ∙ c.if-out_of_roof.true)

pub returns : goal.returns
returns c =
    let at_out_of_roof = (goal.at.returns c).After-out_of_roof in
    let d = of (goal.at.returns c).After-out_of_walls in
    c.ranged.ensures
    ∙ spot-of-none d.year d.building (in-range (goal.at.returns c).Else-out_of_range) (no-walls at_out_of_roof)
    (sym (roof at_out_of_roof) ∙ c.if-out_of_roof.false)
