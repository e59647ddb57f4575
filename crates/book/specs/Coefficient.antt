-- What the outside coefficient of a zone or local is, with the rows that it lies between: on a wall, on a roof, and in
-- zone F of a flat roof.
use Rattle.std.specs.Prelude.{◌≡◌, true, false, ℕ, ◌<◌, ℤ, neg_ℤ}
use Rattle.building.specs.declared.Sizes.{Sizes}
use Rattle.building.specs.Places.{wall_place}
use Rattle.book.specs.declared.Cited.{Cited}
use Rattle.book.specs.declared.Values.TheVariants.{One, Two}
use Rattle.book.specs.Line.{Way}
use Rattle.book.specs.Interpolated.{LiesAt, NearLine}
use Rattle.book.specs.Walls.{wall_way}
use Rattle.book.specs.Roofs.{part_of}
use Rattle.book.specs.Answer.{cites}
use Rattle.book.specs.Question.{wall_column, roof_column, two_signs}

-- x lies so in the roof's part of its table, and v is the value of column col there
pub record OnRoof (s : Sizes) (col : ℕ) (w : Way) (v : ℤ) : Type 0 where
  pub lies : LiesAt (part_of s) s.along s.across w
  pub near : NearLine w col v

-- the alternatives of a place, in order: two in zone F of a flat roof, first plus and second minus, and else one
pub data IsCoefficient (s : Sizes) (wind place : ℕ) : Cited → Type 0 where
  on_wall : {v : ℤ} → wall_place place ≡ true → NearLine (wall_way s) (wall_column wind place) v
      → IsCoefficient s wind place (cites (One v) (wall_way s))
  on_roof : {w : Way} {v : ℤ} → wall_place place ≡ false → 0 < s.kind → two_signs s.kind place ≡ false
      → OnRoof s (roof_column s.kind wind place) w v → IsCoefficient s wind place (cites (One v) w)
  on_f : {w : Way} {v : ℤ} → wall_place place ≡ false → 0 < s.kind → two_signs s.kind place ≡ true
      → OnRoof s (roof_column s.kind wind place) w v → IsCoefficient s wind place (cites (Two v (neg_ℤ v)) w)
