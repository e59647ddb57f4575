-- No half on a gable: what it is that none comes up, and the two facts of table 3.2.2.2.2 that are the reason.
use Rattle.std.specs.Prelude.{◌≡◌, ℕ, ◌+◌, ℤ, nat_abs}
use Rattle.std.specs.Int.{◌∣◌}
use Rattle.whole.specs.Round.{Half}
use Rattle.book.specs.Row.{Row, hundredths, Standing}
use Rattle.book.specs.Line.{Way, along_line}

-- the exact value, part/whole of the way from lower to upper, is not halfway between two thousandths
abbrev pub NoHalf : ℤ → ℤ → ℕ → ℕ → Type 0
NoHalf lower upper part whole = Half (along_line lower upper part whole) whole → ⊥

-- and so in every column of a way
abbrev pub NoHalfOn : Way → Type 0
NoHalfOn w = (col : ℕ) → NoHalf (hundredths w.lower col) (hundredths w.upper col) w.part w.whole

-- a row of which every value is a multiple of ten hundredths
pub record InTens (r : Row) : Type 0 where
  pub at : (col : ℕ) → 10 ∣ nat_abs (hundredths r col)

-- rows that stand 5, 10 or 15 degrees apart
pub data DegreesApart (lower upper : Standing) : Type 0 where
  five : upper.at ≡ lower.at + 50 → DegreesApart lower upper
  ten : upper.at ≡ lower.at + 100 → DegreesApart lower upper
  fifteen : upper.at ≡ lower.at + 150 → DegreesApart lower upper
