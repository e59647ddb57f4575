-- Where a line stands, in the paper's words: its sector by how far this reaches, and its Beaufort number by the row of
-- the printed table.
use Rattle.std.specs.Prelude.{ℕ, ◌+◌, ◌*◌, ◌≤◌, ◌<◌, ◌≡◌, ◌⊎◌, List, [], ◌∷◌, get_or}
use Rattle.field.specs.declared.Field.{Field}
use Rattle.field.specs.declared.Field.TheVariants.{Plus}

-- "16 sectors, the first centred on north and each reaching 11.25 degrees to either side": in quarters of a degree,
-- sector k is centred on 90 k and reaches 45 to either side; a whole turn is 1440
abbrev pub Reaches : (centre x : ℕ) → Type 0
Reaches centre x = (centre ≤ x + 45) × (x ≤ centre + 45)

abbrev pub InSector : (direction sector : ℕ) → Type 0
InSector direction sector =
    (sector < 16) × (Reaches (90 * sector) (4 * direction) ⊎ Reaches (90 * sector + 1440) (4 * direction))

-- table 2.2.2.2.1 as printed, the column in m/s: the least and the greatest speed of each Beaufort number, in tenths;
-- the last row has no end there, and speeds end at 1000 here
unfoldable pub beaufort_table : List (ℕ × ℕ)
beaufort_table =
    (0, 2)
    ∷ (3, 15)
    ∷ (16, 33)
    ∷ (34, 54)
    ∷ (55, 79)
    ∷ (80, 107)
    ∷ (108, 138)
    ∷ (139, 171)
    ∷ (172, 207)
    ∷ (208, 244)
    ∷ (245, 284)
    ∷ (285, 326)
    ∷ (327, 1000)
    ∷ []

abbrev pub InRow : (speed row : ℕ) → Type 0
InRow speed row =
    (row < 13) × ((get_or beaufort_table row (0, 0)).0 ≤ speed) × (speed ≤ (get_or beaufort_table row (0, 0)).1)

-- the line of a direction and a speed, both in their ranges, stands in cell k
pub record StandsIn (l : List Field) (k : ℕ) : Type 0 where
  pub direction : ℕ
  pub speed : ℕ
  pub sector : ℕ
  pub number : ℕ
  pub line : l ≡ Plus direction ∷ Plus speed ∷ []
  pub degrees : direction ≤ 359
  pub tenths : speed ≤ 1000
  pub reached : InSector direction sector
  pub row : InRow speed number
  pub cell : k ≡ 13 * sector + number
