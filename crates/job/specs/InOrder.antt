-- What an accepted sheet carries: every number in its range, every count within its limits, every face on the
-- building and, from year 2 on, within the profile.
use Rattle.std.specs.Prelude.{ℕ, ◌≤◌, ◌≡◌, ◌⊎◌, true, List, [], ◌∷◌, length, ℤ, pos, neg_ℤ, nat_abs, ◌≤ℤ◌, ◌<ℤ◌}
use Rattle.whole.specs.Lists.{Every}
use Rattle.building.specs.declared.Building.{Building}
use Rattle.building.specs.Building.{building_fault}
use Rattle.building.specs.Year.{last_year, face_limit}
use Rattle.building.specs.Test.{one_of}
use Rattle.building.specs.Places.{A, H, single, zone_on, wall_directions, knows, wall_place}
use Rattle.entry.specs.declared.Wind.{Wind}
use Rattle.entry.specs.declared.Step.{Step}
use Rattle.entry.specs.declared.Face.{Face}
use Rattle.job.specs.Carried.{Carried, lowest_of, highest_of}
use Rattle.entry.specs.Says.{both}

-- n lies from the first number to the second, both included
pub record Within (least most n : ℕ) : Type 0 where
  pub low : least ≤ n
  pub high : n ≤ most

-- a direction that the roof knows
pub record WindInOrder (g : Building) (w : Wind) : Type 0 where
  pub direction : knows g.kind w.direction ≡ true
  pub least-speed : pos 1 ≤ℤ w.speed
  pub greatest-speed : w.speed ≤ℤ pos 1000

abbrev pub InternalInOrder : ℤ → Type 0
InternalInOrder i = nat_abs i ≤ 100

-- a zone from A to H that is on the building; a mark for every direction, or for one that the roof knows; a wall of a
-- single slope marked for one that the walls' table has
pub record FaceInOrder (g : Building) (f : Face) : Type 0 where
  pub zone : Within A H f.zone
  pub on : zone_on g.kind f.zone ≡ true
  pub mark : (f.mark ≡ both) ⊎ (knows g.kind f.mark ≡ true)
  pub wall : single g.kind ≡ true → wall_place f.zone ≡ true → one_of wall_directions f.mark ≡ true
  pub x : nat_abs f.x ≤ 100000
  pub y : nat_abs f.y ≤ 100000
  pub z : nat_abs f.z ≤ 100000

-- ---- the form of its year

-- z lies from the first number to the second, both included
pub record Limited (least greatest z : ℤ) : Type 0 where
  pub low : least ≤ℤ z
  pub high : z ≤ℤ greatest

pub record StepInOrder (s : Step) : Type 0 where
  pub height : Limited (pos 0) (pos 30000) s.height
  pub factor : Limited (pos 1) (pos 1000) s.factor

-- from the lowest step of a profile to its highest
pub record HeightInOrder (profile : List Step) (z : ℤ) : Type 0 where
  pub range : Limited (pos 0) (pos 30000) z
  pub within : Limited (lowest_of profile) (highest_of profile) z

-- each height is above the one before it, and the first above z
abbrev pub Climbs : ℤ → List Step → Type 0
Climbs z [] = Unit
Climbs z (s ∷ ss) = (z <ℤ s.height) × Climbs s.height ss

-- year 1 carries no profile and no heights
pub record OfYear1 (c : Carried) : Type 0 where
  pub year : c.year ≡ pos 1
  pub profile : c.profile ≡ []
  pub heights : Every (λ f. f.height ≡ pos 0) c.faces

-- a later year carries a profile, and a height within it for each face
pub record OfLaterYear (c : Carried) : Type 0 where
  pub year : Limited (pos 2) (pos last_year) c.year
  pub counted : Within 1 16 (length c.profile)
  pub profile : Every StepInOrder c.profile
  pub rising : Climbs (neg_ℤ (pos 1)) c.profile
  pub heights : Every (λ f. HeightInOrder c.profile f.height) c.faces

pub record InOrder (c : Carried) : Type 0 where
  pub building : building_fault c.year c.building ≡ 0
  pub winds-counted : Within 1 8 (length c.winds)
  pub winds : Every (WindInOrder c.building) c.winds
  pub internals-counted : Within 1 4 (length c.internals)
  pub internals : Every InternalInOrder c.internals
  pub faces-counted : Within 1 (face_limit c.year) (length c.faces)
  pub faces : Every (FaceInOrder c.building) c.faces
  pub form : OfYear1 c ⊎ OfLaterYear c
