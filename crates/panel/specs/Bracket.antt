-- How the panel of a total is reckoned: by size, in steps of the gap between doubles there, and then by sign.
use Rattle.std.specs.Prelude.{false, cond, ℕ, suc, ◌+◌, ◌-◌, ◌*◌, ◌/◌, ◌%◌, ◌^◌, eqb, ℤ, pos, negsuc, Float}
use Rattle.std.specs.Float.{binary64}
use Rattle.std.specs.Float.Ieee.{round, neg, size}
use Rattle.panel.specs.declared.Panel.{Panel}
use Rattle.panel.specs.declared.Panel.TheVariants.{Exact, Between}

-- how far apart doubles lie at n: 1 where n has at most 53 binary digits, and twice as far for each digit more
unfoldable pub gap : ℕ → ℕ
gap n = 2 ^ (size n - 53)

-- the double nearest to n, which is n for the multiples of the gap below
unfoldable pub double : ℕ → Float
double n = round binary64 false n 1

-- the last multiple of the gap up to n, and the next one
abbrev pub step_below : ℕ → ℕ
step_below n = n / gap n * gap n

abbrev pub step_above : ℕ → ℕ
step_above n = (n / gap n + 1) * gap n

unfoldable pub of_size : ℕ → Panel
of_size n = cond (eqb (n % gap n) 0) (Exact (double n)) (Between (double (step_below n)) (double (step_above n)))

-- the other side of zero
abbrev pub mirrored : Panel → Panel
mirrored (Exact x) = Exact (neg x)
mirrored (Between low high) = Between (neg high) (neg low)

unfoldable pub panel_of : ℤ → Panel
panel_of (pos n) = of_size n
panel_of (negsuc n) = mirrored (of_size (suc n))
