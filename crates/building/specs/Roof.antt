-- Roofs by kind: which numbers x may be, and what of x is compared with the rows of a table.
use Rattle.std.specs.Prelude.{Bool, true, false, cond, List, [], ◌∷◌, ℕ, ◌*◌, get_or}

-- x from `least` to `greatest`; or, `by_height`, x/h in thousandths
pub record Roof : Type 0 where
  pub least : ℕ
  pub greatest : ℕ
  pub by_height : Bool

abbrev pub roof : ℕ → ℕ → Bool → Roof
roof least greatest by_height = record { least = least; greatest = greatest; by_height = by_height }

-- kinds 0 to 6: none; gable; flat with straight eaves, with parapet, with curved eaves, with mansard; single slope
abbrev pub last_kind : ℕ
last_kind = 6

abbrev pub roofs : List Roof
roofs =
    roof 0 0 false
    ∷ roof 0 600 false
    ∷ roof 0 0 false
    ∷ roof 25 100 true
    ∷ roof 50 200 true
    ∷ roof 300 900 false
    ∷ roof 50 300 false
    ∷ []

unfoldable pub roof_of : ℕ → Roof
roof_of kind = get_or roofs kind (roof 0 0 false)

-- what is compared is along/across: x, or 1000 x/h
abbrev pub along_of : ℕ → ℕ → ℕ
along_of kind x = cond (roof_of kind).by_height (1000 * x) x

abbrev pub across_of : ℕ → ℕ → ℕ
across_of kind h = cond (roof_of kind).by_height h 1
