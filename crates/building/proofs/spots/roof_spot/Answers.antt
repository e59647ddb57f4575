-- `spots::roof_spot`: the limits of the roof's kind, times what x is compared over, in steps of x.
use Prim.Native.Nat.{ℕ, ◌+◌, ◌-◌, ◌*◌, ◌/◌, ◌^◌, ◌≤◌, ◌<◌}
use mathlib.Core.Path.{◌≡◌, ◌∙◌}
use mathlib.Core.Bool.{Bool, true, false, cond}
use native.Mathlib.Nat.{mul-le-mul, div-le_self}
use native.Mathlib.Omega.{arith}
use lib.IntN.{pos}
use mir.Syntax.{w64}
use mir.Facts.{to_z_pos}
use Rattle.building.specs.declared.faults.Roof.{Roof}
use Rattle.building.specs.Fault.{ranged}
use Rattle.building.specs.Roof.{roof_of, along_of}
use Rattle.building.specs.Building.{rounded_up, roof_spot}
use Rattle.building.proofs.Roofs.{least-most, greatest-most}
use Rattle.building.proofs.spots.roof_spot.Goals.{After-along-scale}
use Rattle.building.proofs.spots.roof_spot.Goals as goal

small : {n d k : ℕ} → n ≡ k → k ≤ 900 → d ≤ 30000 → n * d ≤ 27000000
small {n} {d} p h g = mul-le-mul {n₁ = n} {m₁ = d} {n₂ = 900} {m₂ = 30000} (omega arith) (omega arith)

scale-range : (kind : ℕ) → (0 < along_of kind 1) × (along_of kind 1 ≤ 1000)
scale-range kind = go (roof_of kind).by_height
  where
    go : (t : Bool) → (0 < cond t (1000 * 1) 1) × (cond t (1000 * 1) 1 ≤ 1000)
    go true = (omega arith, omega arith)
    go false = (omega arith, omega arith)

module _ (c : After-along-scale) where
  abbrev roof : Roof
  roof = c.roof_of-roof.result

  abbrev across : ℕ
  across = c.args.s.across

  low : roof.0 * across ≤ 27000000
  low = small c.roof_of-roof.ensures.least (least-most c.args.s.kind) c.requires.across-most

  high : roof.1 * across ≤ 27000000
  high = small c.roof_of-roof.ensures.greatest (greatest-most c.args.s.kind) c.requires.across-most

  scale : (0 < c.along-scale.result) × (c.along-scale.result ≤ 1000)
  scale =
      let r = scale-range c.args.s.kind in
      (omega (arith, r.0, c.along-scale.ensures), omega (arith, r.1, c.along-scale.ensures))

  up : roof.0 * across + (c.along-scale.result - 1) ≤ 27001000
  up = omega (arith, low, scale.1)

  up_small : (roof.0 * across + (c.along-scale.result - 1)) / c.along-scale.result < 2 ^ 63
  up_small =
      let n = roof.0 * across + (c.along-scale.result - 1) in
      omega (arith, up, div-le_self n c.along-scale.result)

  down-small : roof.1 * across / c.along-scale.result < 2 ^ 63
  down-small = omega (arith, high, div-le_self (roof.1 * across) c.along-scale.result)

pub overflow_mul-least : goal.overflow_mul-least
overflow_mul-least c =
    omega (arith, small c.roof_of-roof.ensures.least (least-most c.args.s.kind) c.requires.across-most)

pub overflow_mul-greatest : goal.overflow_mul-greatest
overflow_mul-greatest c =
    omega (arith, small c.roof_of-roof.ensures.greatest (greatest-most c.args.s.kind) c.requires.across-most)

pub overflow_sub-scale : goal.overflow_sub-scale
overflow_sub-scale c = omega (arith, (scale c).0)

pub overflow_add-least : goal.overflow_add-least
overflow_add-least c = omega (arith, up c)

pub nonzero_div-least : goal.nonzero_div-least
nonzero_div-least c = omega (arith, (scale c).0)

pub overflow_cast-least : goal.overflow_cast-least
overflow_cast-least c = omega (arith, up_small c)

pub nonzero_div-greatest : goal.nonzero_div-greatest
nonzero_div-greatest c = omega (arith, (scale c).0)

pub overflow_cast-greatest : goal.overflow_cast-greatest
overflow_cast-greatest c = omega (arith, down-small c)

pub returns : goal.returns
unfolding roof_spot
returns c =
    let at_along_scale = (goal.at.returns c).After-along-scale in
    let k = c.args.s.kind in
    c.ranged.ensures
    ∙ (λ i. ranged 6 (to_z_pos w64 (up_small at_along_scale) i) (to_z_pos w64 (down-small at_along_scale) i))
    ∙ (λ i. ranged 6
    (pos (rounded_up (c.roof_of-roof.ensures.least i * across at_along_scale) (c.along-scale.ensures i)))
    (pos (c.roof_of-roof.ensures.greatest i * across at_along_scale / c.along-scale.ensures i)))
