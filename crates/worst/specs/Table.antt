-- The engine's table of outside coefficients: a place for each direction and zone, filled when a face first asks.
-- Only contracts of private functions cite it.
use Rattle.std.specs.Prelude.{◌≡◌, Option, None, Some, List, length, get_or}
use Rattle.std.specs.Prelude.{ℕ, ℤ, pos, nat_abs, ◌+◌, ◌-◌, ◌*◌, ◌/◌, ◌%◌, ◌≤◌}
use Rattle.building.specs.declared.Building.{Building}
use Rattle.building.specs.Year.{last_year}
use Rattle.building.specs.Places.{A, E, H}
use Rattle.book.specs.declared.Ends.{Ends}
use Rattle.book.specs.Answer.{values_of}
use Rattle.book.specs.Question.{outside_of}
use Rattle.worst.specs.declared.outside.Outside.{Outside}

-- the first and the last of a zone's outside coefficients, which are one where it has one
abbrev pub first_and_last : List ℤ → Outside
first_and_last outs = record { first = get_or outs 0 (pos 0); last = get_or outs (length outs - 1) (pos 0) }

-- by the last year's reading of the walls' table: a building that is in order by an earlier one has the same by both
abbrev pub outside_at : Building → ℤ → ℕ → Outside
outside_at b direction zone = first_and_last (values_of (outside_of (pos last_year) b direction zone))

-- directions lie 45 degrees apart, five of them: the place of a direction and a zone, A to H under each in turn
abbrev pub places : ℕ
places = 40

abbrev pub place_of : ℤ → ℕ → ℕ
place_of direction zone = nat_abs direction / 45 * 8 + (zone - A)

pub record Placed (direction : ℤ) (zone : ℕ) : Type 0 where
  pub turn : ℕ
  pub few : turn ≤ 4
  pub way : direction ≡ pos (turn * 45)
  pub from : A ≤ zone
  pub to : zone ≤ H

-- the direction and the zone of a place
abbrev pub direction_at : ℕ → ℤ
direction_at k = pos (k / 8 * 45)

abbrev pub zone_at : ℕ → ℕ
zone_at k = A + k % 8

-- what a zone has, as the table keeps it
abbrev pub ends_kept : Ends → Outside
ends_kept o = record { first = o.first; last = o.last }

-- at a place stands what it is for
abbrev pub Stands : Building → List (Option Outside) → ℕ → Type 0
Stands b place k = get_or place k None ≡ Some (outside_at b (direction_at k) (zone_at k))

-- whatever stands there is right
pub record Filled (b : Building) (place : List (Option Outside)) : Type 0 where
  pub all : length place ≡ places
  pub right : (k : ℕ) (o : Outside) → get_or place k None ≡ Some o → o ≡ outside_at b (direction_at k) (zone_at k)

-- the four zones of a half are looked up at once: those of the walls begin at A, and those of the roof at E
pub data Begins (zone : ℕ) : Type 0 where
  walls : zone ≡ A → Begins zone
  roof : zone ≡ E → Begins zone
