-- A fault of a line: its number, whether it is found, and its spot in the line.
use Rattle.std.specs.Prelude.{Bool, cond, List, [], ◌∷◌, ℕ, eqb, ℤ, pos}
use Rattle.building.specs.declared.Spot.{Spot}
use Rattle.building.specs.Test.{beyond}

-- a field by its number in the line, from 1, with what may stand there; and one whose range is not said
abbrev pub ranged : ℕ → ℤ → ℤ → Spot
ranged field least greatest = record { field = field; least = least; greatest = greatest }

abbrev pub spot : ℕ → Spot
spot field = ranged field (pos 0) (pos 0)

pub record Fault : Type 0 where
  pub number : ℕ
  pub found : Bool
  pub place : Spot

abbrev pub fault : ℕ → Bool → Spot → Fault
fault number found place = record { number = number; found = found; place = place }

-- a number outside the range that its spot says
abbrev pub outside : ℕ → Spot → ℤ → Fault
outside number place z = fault number (beyond place.least place.greatest z) place

-- the number of the first that is found, 0 where none is
abbrev pub first : List Fault → ℕ
first [] = 0
first (f ∷ fs) = cond f.found f.number (first fs)

-- its spot; that of the line as a whole where none is
unfoldable pub first_spot : List Fault → Spot
first_spot [] = spot 0
first_spot (f ∷ fs) = cond f.found f.place (first_spot fs)

-- the spot of a field, found at fault or not: that of the first fault that lies there
unfoldable pub spot_of : ℕ → List Fault → Spot
spot_of field [] = spot field
spot_of field (f ∷ fs) = cond (eqb field f.place.field) f.place (spot_of field fs)
