-- Where a number lies among the rows of a part and what the value of a column is there, said of the printed rows and
-- not of how they are found.
use Rattle.std.specs.Prelude.{◌≡◌, ℕ, ◌-◌, ◌*◌, ◌≤◌, ◌<◌, ℤ}
use mathlib.Core.List.{List, [], ◌∷◌, Memᴰ}
use Rattle.whole.specs.Round.{Nearest}
use Rattle.whole.specs.Lowest.{LowestTerms}
use Rattle.book.specs.Row.{hundredths, Standing}
use Rattle.book.specs.Line.{Way, on, along_line}

-- two rows that follow each other
pub data Neighbours : List Standing → Standing → Standing → Type 0 where
  first : {lower upper : Standing} {rows : List Standing} → Neighbours (lower ∷ upper ∷ rows) lower upper
  later : {lower upper r s : Standing} {rows : List Standing} → Neighbours (s ∷ rows) lower upper
      → Neighbours (r ∷ s ∷ rows) lower upper

-- each row stands at a larger number than the one before it
abbrev pub Rising : List Standing → Type 0
Rising [] = Unit {0}
Rising (r ∷ []) = Unit {0}
Rising (r ∷ s ∷ rows) = (r.at < s.at) × Rising (s ∷ rows)

-- x/d lies between two neighbouring rows, ends included
pub record LiesBetween (rows : List Standing) (x d : ℕ) (lower upper : Standing) : Type 0 where
  pub next : Neighbours rows lower upper
  pub from : lower.at * d ≤ x
  pub to : x ≤ upper.at * d

-- where x/d lies: on the only row; up to the first, on that; on any row; or between two neighbours, a fraction of the
-- way in lowest terms
pub data LiesAt (rows : List Standing) (x d : ℕ) : Way → Type 0 where
  alone : {r : Standing} → rows ≡ r ∷ [] → LiesAt rows x d (on r.row)
  up_to_first : {r : Standing} {rest : List Standing} → rows ≡ r ∷ rest → x ≤ r.at * d → LiesAt rows x d (on r.row)
  on_row : {r : Standing} → Memᴰ r rows → x ≡ r.at * d → LiesAt rows x d (on r.row)
  between_rows : {lower upper : Standing} {part whole : ℕ} → Neighbours rows lower upper → lower.at * d < x
      → x < upper.at * d → LowestTerms (x - lower.at * d) (upper.at * d - lower.at * d) part whole
      → LiesAt rows x d (record { lower = lower.row; upper = upper.row; part = part; whole = whole })

-- v, in thousandths, is nearest to lower + part/whole × (upper - lower) in column col, a half going away from zero
abbrev pub NearLine : Way → ℕ → ℤ → Type 0
NearLine w col v =
    Nearest (along_line (hundredths w.lower col) (hundredths w.upper col) w.part w.whole) w.whole v
