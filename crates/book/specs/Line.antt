-- Interpolation, one definition for every table. Between rows the exact value lies on the straight line; it is then
-- rounded once to a thousandth, a half going away from zero.
use Rattle.std.specs.Prelude.{cond, List, [], ◌∷◌, ℕ, ◌-◌, ◌*◌, ◌/◌, ℤ, pos, ◌+ℤ◌, ◌-ℤ◌, ◌*ℤ◌, ◌≤ℤ◌, leb}
use Rattle.whole.specs.Round.{round_away}
use Rattle.whole.specs.Lowest.{common_divisor}
use Rattle.book.specs.Row.{Row, no_row, hundredths, Standing}

-- from one row to another, and the fraction of the way: part/whole
pub record Way : Type 0 where
  pub lower : Row
  pub upper : Row
  pub part : ℕ
  pub whole : ℕ

-- on a row itself; or between two rows, at x/d, with the fraction in lowest terms
abbrev pub on : Row → Way
on r = record { lower = r; upper = r; part = 0; whole = 1 }

abbrev pub between : Standing → Standing → ℕ → ℕ → Way
between r s x d =
    let part = x - r.at * d in
    let whole = s.at * d - r.at * d in
    let divisor = common_divisor part whole in
    record { lower = r.row; upper = s.row; part = part / divisor; whole = whole / divisor }

-- where x/d lies: a walk over the rows, in the book's order
unfoldable pub way_in : List Standing → ℕ → ℕ → Way
way_in [] x d = on no_row
way_in (r ∷ []) x d = on r.row
way_in (r ∷ s ∷ rows) x d =
    cond (leb x (r.at * d)) (on r.row) (cond (leb (s.at * d) x) (way_in (s ∷ rows) x d) (between r s x d))

-- lower + part/whole × (upper - lower), which are hundredths: in thousandths, and over whole
abbrev pub along_line : ℤ → ℤ → ℕ → ℕ → ℤ
along_line lower upper part whole = (lower *ℤ pos whole +ℤ (upper -ℤ lower) *ℤ pos part) *ℤ pos 10

unfoldable pub on_straight : ℤ → ℤ → ℕ → ℕ → ℤ
on_straight lower upper part whole = round_away (along_line lower upper part whole) whole

-- the value of a column
abbrev pub value_at : Way → ℕ → ℤ
value_at w col = on_straight (hundredths w.lower col) (hundredths w.upper col) w.part w.whole

-- a value between two others, whichever is the larger
pub record Between (v w z : ℤ) : Type 0 where
  pub rising : v ≤ℤ w → (v ≤ℤ z) × (z ≤ℤ w)
  pub falling : w ≤ℤ v → (w ≤ℤ z) × (z ≤ℤ v)
