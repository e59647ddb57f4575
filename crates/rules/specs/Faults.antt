-- The faults of an entry by its values, the lowest number first. Those of a building are in crate `building`.
use Rattle.std.specs.Prelude.{List, [], ◌∷◌, Bool, cond, not, ◌&&◌, ◌||◌, ℕ, ◌+◌, ℤ, pos, neg_ℤ, ◌+ℤ◌}
use Rattle.std.specs.Int.Signed.{lt_z}
use Rattle.building.specs.declared.Building.{Building}
use Rattle.building.specs.Test.{among, is, one_of, beyond}
use Rattle.building.specs.Fault.{ranged, spot, Fault, fault, outside}
use Rattle.building.specs.Places.{A, H, single, zone_on, wall_directions, knows, wall_place}
use Rattle.entry.specs.declared.Wind.{Wind}
use Rattle.entry.specs.declared.Step.{Step}
use Rattle.entry.specs.declared.Face.{Face}
use Rattle.building.specs.Year.{last_year, has_heights}
use Rattle.entry.specs.Says.{both}
use Rattle.rules.specs.declared.Before.{Before}

abbrev pub year_faults : ℤ → List Fault
year_faults year = outside 3 (ranged 1 (pos 2) (pos last_year)) year ∷ []

abbrev pub wind_faults : Building → Wind → List Fault
wind_faults g w =
    fault 3 (not (knows g.kind w.direction)) (spot 1)
    ∷ outside 3 (ranged 2 (pos 1) (pos 1000)) w.speed
    ∷ []

abbrev pub internal_faults : ℤ → List Fault
internal_faults i = outside 3 (ranged 1 (neg_ℤ (pos 100)) (pos 100)) i ∷ []

-- ---- heights

abbrev pub most_height : ℤ
most_height = pos 30000

abbrev pub height_fault : ℕ → ℤ → Fault
height_fault field z = outside 3 (ranged field (pos 0) most_height) z

-- the least height of a profile's next step: 0, or above the highest before it
abbrev pub next_height : ℤ → ℤ
next_height highest =
    cond (lt_z highest (pos 0)) (pos 0) (cond (lt_z highest most_height) (highest +ℤ pos 1) (most_height +ℤ pos 1))

-- a height that is not above the highest before it; a factor
abbrev pub step_faults : ℤ → Step → List Fault
step_faults highest s =
    height_fault 1 s.height
    ∷ fault 3 (not (lt_z highest s.height)) (ranged 1 (next_height highest) most_height)
    ∷ outside 3 (ranged 2 (pos 1) (pos 1000)) s.factor
    ∷ []

-- a height that lies outside the profile, where there is one
abbrev pub off_profile : Before → ℤ → Bool
off_profile b z = has_heights b.year && beyond b.lowest b.highest z

-- ---- faces

abbrev pub area_fault : ℕ → ℤ → Fault
area_fault field z = outside 3 (ranged field (neg_ℤ (pos 100000)) (pos 100000)) z

-- on a single slope, a wall that is not marked for a direction that the walls' table has
abbrev pub unmarked_wall : ℤ → Face → Bool
unmarked_wall kind f = single kind && (wall_place f.zone && not (one_of wall_directions f.mark))

-- the field of the height, which is none where faces have no height, and that of area i, from 0
abbrev pub height_field : Bool → ℕ
height_field heights = cond heights 3 0

abbrev pub area_field : Bool → ℕ → ℕ
area_field heights i = cond heights 4 3 + i

-- a zone that is not on the building, or a wall that its table has no column for; a height outside the profile
abbrev pub place_faults : Before → Face → List Fault
place_faults b f =
    fault 6 (not (zone_on b.building.kind f.zone)) (spot 1)
    ∷ fault 6 (unmarked_wall b.building.kind f) (spot 2)
    ∷ fault 8 (off_profile b f.height) (ranged (height_field (has_heights b.year)) b.lowest b.highest)
    ∷ []

-- no zone's letter; a mark neither for every direction nor for one; the height and the areas; then where it stands
abbrev pub face_faults : Before → Face → List Fault
face_faults b f =
    fault 1 (not (among A H f.zone)) (spot 1)
    ∷ fault 3 (not (is both f.mark || knows b.building.kind f.mark)) (spot 2)
    ∷ height_fault (height_field (has_heights b.year)) f.height
    ∷ area_fault (area_field (has_heights b.year) 0) f.x
    ∷ area_fault (area_field (has_heights b.year) 1) f.y
    ∷ area_fault (area_field (has_heights b.year) 2) f.z
    ∷ place_faults b f
