-- What it is for a building to be in order, said of its sizes. `in_order` of proofs/Accepted.antt shows it of each
-- building without a fault.
use Rattle.std.specs.Prelude.{◌≡◌, ◌*◌, ◌≤◌, ◌<◌}
use Rattle.building.specs.declared.Sizes.{Sizes}
use Rattle.building.specs.Roof.{last_kind, roof_of, across_of}

-- every number in its range, and so what x is compared over
pub record Ranged (s : Sizes) : Type 0 where
  pub h-least : 100 ≤ s.h
  pub h-most : s.h ≤ 30000
  pub a-least : 100 ≤ s.a
  pub a-most : s.a ≤ 30000
  pub b-least : 100 ≤ s.b
  pub b-most : s.b ≤ 30000
  pub kind-most : s.kind ≤ last_kind
  pub across-least : 0 < s.across
  pub across-most : s.across ≤ 30000

-- and within the limits of the walls' table and of its roof: every table has a row for it
pub record SizesInOrder (s : Sizes) : Type 0 where
  pub ranged : Ranged s
  pub h-over-b : s.h ≤ 6 * s.b
  pub a-from-b : s.b ≤ s.a
  pub a-over-b : s.a ≤ 4 * s.b
  pub x-over : s.across ≡ across_of s.kind s.h
  pub x-from : (roof_of s.kind).least * s.across ≤ s.along
  pub x-to : s.along ≤ (roof_of s.kind).greatest * s.across
