-- A total as a pair: "a whole number of newtons, rounded down, with a remainder of 0 to 19,999,999,999 units". As one
-- number it is its units.
use Rattle.std.specs.Prelude.{Bool, true, false, cond, ◌&&◌, ℕ, ◌*◌, ltb, leb, ℤ, pos, nat_abs, ◌+ℤ◌, ◌-ℤ◌, ◌*ℤ◌}
use Rattle.std.specs.Int.Signed.{lt_z}
use Rattle.whole.specs.Newton.{newton, newtons, remainder}
use Rattle.pair.specs.declared.Pair.{Pair}

-- the pair of a total, and the one number that a pair stands for
abbrev pub pair_of : ℤ → Pair
pair_of total = record { newtons = newtons total; remainder = remainder total }

abbrev pub units : Pair → ℤ
units p = p.newtons *ℤ pos newton +ℤ pos p.remainder

-- nothing
abbrev pub no_pair : Pair
no_pair = record { newtons = pos 0; remainder = 0 }

-- its remainder is less than 1 N, as that of every total is
abbrev pub proper : Pair → Bool
proper p = ltb p.remainder newton

-- and it is n newtons at most in size
unfoldable pub within_newtons : ℕ → Pair → Bool
within_newtons n p = proper p && leb (nat_abs (units p)) (n * newton)

-- p is the lesser: by the newtons and, where these are equal, by the remainder
unfoldable pub lesser : Pair → Pair → Bool
lesser p q =
    cond (lt_z p.newtons q.newtons) true
    (cond (lt_z q.newtons p.newtons) false (ltb p.remainder q.remainder))

-- pairs that can be added: two of so many newtons at most fit 64 bits when they are added
abbrev pub most_added : ℕ
most_added = 4_000_000_000_000_000_000

abbrev pub addable : Pair → Bool
addable p = within_newtons most_added p

-- the sum and the difference of two that can be added; of others, nothing
unfoldable pub pair_sum : Pair → Pair → Pair
pair_sum p q = cond (addable p && addable q) (pair_of (units p +ℤ units q)) (pair_of (pos 0))

unfoldable pub pair_difference : Pair → Pair → Pair
pair_difference p q = cond (addable p && addable q) (pair_of (units p -ℤ units q)) (pair_of (pos 0))

-- the total in units, where it has so many newtons at most that they fit 64 bits; of others, nothing
abbrev pub most_in_units : ℕ
most_in_units = 400_000_000

unfoldable pub as_units : Pair → ℤ
as_units p = cond (within_newtons most_in_units p) (units p) (pos 0)
