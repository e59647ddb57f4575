-- A total in newtons: 1 N is 20,000,000,000 units.
use Rattle.std.specs.Prelude.{ℕ, ℤ}
use Rattle.whole.specs.Round.{round_down, left_over}

abbrev pub newton : ℕ
newton = 20_000_000_000

-- whole newtons, rounded down, and the units that remain
abbrev pub newtons : ℤ → ℤ
newtons total = round_down total newton

abbrev pub remainder : ℤ → ℕ
remainder total = left_over total newton
