-- Zones and locals by their bytes, and the directions: which of them a roof of a kind has.
use Rattle.std.specs.Prelude.{Bool, cond, not, ◌&&◌, ◌||◌, List, [], ◌∷◌, ◌++◌, ℕ, ℤ, pos, eqb}
use Rattle.building.specs.Test.{among, is, one_of, within}

abbrev pub A : ℕ
A = 65

abbrev pub D : ℕ
D = 68

abbrev pub E : ℕ
E = 69

abbrev pub F : ℕ
F = 70

abbrev pub G : ℕ
G = 71

abbrev pub H : ℕ
H = 72

-- the locals: the wall's `w`, and L1 and L2 as `1` and `2`
abbrev pub wall_local : ℕ
wall_local = 119

abbrev pub L1 : ℕ
L1 = 49

abbrev pub L2 : ℕ
L2 = 50

-- kind 1 is a gable, kinds 2 to 5 are flat, kind 6 is a single slope
abbrev pub gable : ℤ → Bool
gable kind = is (pos 1) kind

abbrev pub single : ℤ → Bool
single kind = is (pos 6) kind

abbrev pub flat : ℤ → Bool
flat kind = within (pos 2) (pos 5) kind

-- A to D exist always, E to H on gables and single slopes, E and F on flat roofs
unfoldable pub zone_on : ℤ → ℕ → Bool
zone_on kind zone =
    among A D zone || ((gable kind || single kind) && among E H zone || flat kind && among E F zone)

-- the wall's always; L1, L2 on flat roofs
unfoldable pub local_on : ℤ → ℕ → Bool
local_on kind place = eqb place wall_local || flat kind && (eqb place L1 || eqb place L2)

-- the directions that the walls' table has, and those that the table of single slopes has beside them
abbrev pub wall_directions : List ℤ
wall_directions = pos 0 ∷ pos 90 ∷ []

abbrev pub slope_directions : List ℤ
slope_directions = pos 45 ∷ pos 135 ∷ pos 180 ∷ []

-- all that a roof of this kind has
abbrev pub directions : ℤ → List ℤ
directions kind = wall_directions ++ cond (single kind) slope_directions []

-- a roof of this kind knows the direction
unfoldable pub knows : ℤ → ℤ → Bool
knows kind direction = one_of (directions kind) direction

-- A to D, and the wall's local
abbrev pub wall_place : ℕ → Bool
wall_place place = among A D place || eqb place wall_local

-- a zone or local that a roof of this kind has; one on a wall only under a direction that the walls' table has
unfoldable pub place_on : ℤ → ℤ → ℕ → Bool
place_on kind direction place =
    (zone_on kind place || local_on kind place) && (not (wall_place place) || one_of wall_directions direction)
