-- A printed number of hundredths, by its sign: `p 70` is +0.70 and `m 25` is -0.25.
use Rattle.std.specs.Prelude.{ℕ, ℤ, pos, neg_ℤ}

abbrev pub p : ℕ → ℤ
p n = pos n

abbrev pub m : ℕ → ℤ
m n = neg_ℤ (pos n)
