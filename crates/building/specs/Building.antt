-- The building's line, h a b density kind x, and its faults, the lowest number first; and what it gets as a record.
use Rattle.std.specs.Prelude.{Bool, false, cond, not, ◌||◌, List, [], ◌∷◌, ◌++◌, ℕ, ◌+◌, ◌-◌, ◌*◌, ◌/◌, min, ℤ, pos}
use Rattle.std.specs.Prelude.{nat_abs, ltb, leb}
use Rattle.building.specs.declared.Building.{Building}
use Rattle.building.specs.declared.Sizes.{Sizes}
use Rattle.building.specs.Test.{beyond, too_long}
use Rattle.building.specs.Year.{has_squares}
use Rattle.building.specs.declared.Spot.{Spot}
use Rattle.building.specs.Fault.{ranged, Fault, fault, outside, first}
use Rattle.building.specs.Ratio.{Limit, ◌÷◌, up_to}
use Rattle.building.specs.Roof.{last_kind, roof_of, along_of, across_of}

-- ---- 3: each number by itself

pub record Range : Type 0 where
  pub number : ℤ
  pub least : ℕ
  pub greatest : ℕ

abbrev pub range : ℤ → ℕ → ℕ → Range
range number least greatest = record { number = number; least = least; greatest = greatest }

-- the least and the greatest length of a building, in cm
abbrev pub least_length : ℕ
least_length = 100

abbrev pub most_length : ℕ
most_length = 30000

-- the line's numbers and their ranges
abbrev pub ranges : Building → List Range
ranges g =
    range g.h least_length most_length
    ∷ range g.a least_length most_length
    ∷ range g.b least_length most_length
    ∷ range g.density 1000 1500
    ∷ range g.kind 0 last_kind
    ∷ range g.x 0 30000
    ∷ []

abbrev pub some : (Range → Bool) → List Range → Bool
some f [] = false
some f (r ∷ rs) = f r || some f rs

unfoldable pub out_of_range : Building → Bool
out_of_range g = some (λ r. beyond (pos r.least) (pos r.greatest) r.number) (ranges g)

-- a fault for each number, of which the first stands in this field
abbrev pub range_faults : ℕ → List Range → List Fault
range_faults field [] = []
range_faults field (r ∷ rs) =
    outside 3 (ranged field (pos r.least) (pos r.greatest)) r.number ∷ range_faults (field + 1) rs

-- ---- 4 and 5: the numbers together, once each is in its range

-- what the tables ask for: lengths, the roof's kind, and x as along/across
abbrev pub sizes : Building → Sizes
sizes g =
    record {
      h = nat_abs g.h;
      a = nat_abs g.a;
      b = nat_abs g.b;
      kind = nat_abs g.kind;
      along = along_of (nat_abs g.kind) (nat_abs g.x);
      across = across_of (nat_abs g.kind) (nat_abs g.h);
    }

-- the walls' table begins just over a/b = 1, and at 1 where it has square plans
abbrev pub begun : ℤ → ℕ → ℕ → Bool
begun year a b = cond (has_squares year) (leb b a) (ltb b a)

-- it goes up to these h/b and a/b
abbrev pub most_slender : Limit
most_slender = 6 ÷ 1

abbrev pub most_oblong : Limit
most_oblong = 4 ÷ 1

-- h/b over 6, a/b before the table begins in that year, a/b over 4
unfoldable pub out_of_walls : ℤ → Sizes → Bool
out_of_walls year s =
    not (up_to s.h s.b most_slender)
    || (not (begun year s.a s.b) || not (up_to s.a s.b most_oblong))

-- x below the least of its roof, or above the greatest
unfoldable pub out_of_roof : Sizes → Bool
out_of_roof s =
    ltb s.along ((roof_of s.kind).least * s.across) || ltb ((roof_of s.kind).greatest * s.across) s.along

-- ---- what may stand there, by the other numbers

-- the greatest length up to a limit of its ratio to b
abbrev pub length_to : Limit → ℕ → ℕ
length_to t b = min most_length (t.over * b / t.under)

-- 4 lies in h where that is too great for b, and else in a
unfoldable pub walls_spot : ℤ → Sizes → Spot
walls_spot year s =
    cond (up_to s.h s.b most_slender)
    (ranged 2 (pos (cond (has_squares year) s.b (s.b + 1))) (pos (length_to most_oblong s.b)))
    (ranged 1 (pos least_length) (pos (length_to most_slender s.b)))

-- n/d rounded up
abbrev pub rounded_up : ℕ → ℕ → ℕ
rounded_up n d = (n + (d - 1)) / d

-- 5 lies in x: the whole numbers from the least of its roof to the greatest
unfoldable pub roof_spot : Sizes → Spot
roof_spot s =
    ranged 6 (pos (rounded_up ((roof_of s.kind).least * s.across) (along_of s.kind 1)))
    (pos ((roof_of s.kind).greatest * s.across / along_of s.kind 1))

-- ---- the faults in their order

abbrev pub sizes_faults : ℤ → Sizes → List Fault
sizes_faults year s = fault 4 (out_of_walls year s) (walls_spot year s) ∷ fault 5 (out_of_roof s) (roof_spot s) ∷ []

abbrev pub faults : ℤ → Building → List Fault
faults year g = range_faults 1 (ranges g) ++ sizes_faults year (sizes g)

-- the number that the building's line gets in a sheet of a year, 0 where it is in order
unfoldable pub building_fault : ℤ → Building → ℕ
building_fault year g = first (faults year g)

-- ---- a building given as a record

-- some number is too long
unfoldable pub out_of_form : Building → Bool
out_of_form g = some (λ r. too_long r.number) (ranges g)

-- the number that its line would get
unfoldable pub given_fault : ℤ → Building → ℕ
given_fault year g = cond (out_of_form g) 1 (building_fault year g)
