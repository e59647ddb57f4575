-- The panel at its edges, row by row: computed, and equal to what is written here. `fin s m e` is m * 2 ^ e, negative
-- where s is true.
use mathlib.Core.Path.{◌≡◌, refl}
use Prim.Native.Nat.{ℕ}
use mathlib.Core.Bool.{true, false}
use mathlib.Core.List.{List, [], ◌∷◌, map}
use lib.IntN.{ℤ, pos, negsuc}
use lib.Ieee.{fin, round, size, neg}
use Rattle.panel.specs.declared.Panel.{Panel}
use Rattle.panel.specs.declared.Panel.TheVariants.{Exact, Between}
use Rattle.panel.specs.Bracket.{panel_of, gap, double, of_size}
use Rattle.panel.specs.Pairs.{panel_of_newtons}

pub record Row : Type 0 where
  pub total : ℤ
  pub panel : Panel

abbrev row : ℤ → Panel → Row
row z p = record { total = z; panel = p }

abbrev pub rows : List Row
rows =
    -- zero is positive zero
    row (pos 0) (Exact (fin false 0 (pos 0)))
    ∷ row (pos 1) (Exact (fin false 1 (pos 0)))
    ∷ row (negsuc 0) (Exact (fin true 1 (pos 0)))
    -- 2 ^ 53 - 1 and 2 ^ 53 are doubles, and 2 ^ 53 + 1 lies between 2 ^ 53 and 2 ^ 53 + 2
    ∷ row (pos 9_007_199_254_740_991) (Exact (fin false 9_007_199_254_740_991 (pos 0)))
    ∷ row (pos 9_007_199_254_740_992) (Exact (fin false 1 (pos 53)))
    ∷ row (pos 9_007_199_254_740_993) (Between (fin false 1 (pos 53)) (fin false 4_503_599_627_370_497 (pos 1)))
    -- and so on the other side: - 2 ^ 53 - 1 lies between - 2 ^ 53 - 2 and - 2 ^ 53
    ∷ row (negsuc 9_007_199_254_740_992) (Between (fin true 4_503_599_627_370_497 (pos 1)) (fin true 1 (pos 53)))
    -- the ends of 64 bits: 2 ^ 63 - 1 lies between 2 ^ 63 - 1024 and 2 ^ 63, and - 2 ^ 63 is a double
    ∷ row (pos 9_223_372_036_854_775_807) (Between (fin false 9_007_199_254_740_991 (pos 10)) (fin false 1 (pos 63)))
    ∷ row (negsuc 9_223_372_036_854_775_807) (Exact (fin true 1 (pos 63)))
    ∷ []

pub rows-hold : map (λ (r : Row). panel_of r.total) rows ≡ map (λ (r : Row). r.panel) rows
unfolding panel_of gap double of_size size round neg
rows-hold = refl

-- newtons with a remainder
pub record PairRow : Type 0 where
  pub newtons : ℤ
  pub remainder : ℕ
  pub panel : Panel

abbrev pair : ℤ → ℕ → Panel → PairRow
pair n r p = record { newtons = n; remainder = r; panel = p }

abbrev pub pair_rows : List PairRow
pair_rows =
    -- nothing remains
    pair (negsuc 0) 0 (Exact (fin true 1 (pos 0)))
    -- minus one unit lies between -1 N and positive zero, and one unit between that and 1 N
    ∷ pair (negsuc 0) 19_999_999_999 (Between (fin true 1 (pos 0)) (fin false 0 (pos 0)))
    ∷ pair (pos 0) 1 (Between (fin false 0 (pos 0)) (fin false 1 (pos 0)))
    -- 2 ^ 53 + 1 has no double: the bracket goes to 2 ^ 53 and 2 ^ 53 + 2 on either side
    ∷ pair (pos 9_007_199_254_740_992) 1 (Between (fin false 1 (pos 53)) (fin false 4_503_599_627_370_497 (pos 1)))
    ∷ pair (pos 9_007_199_254_740_993) 1 (Between (fin false 1 (pos 53)) (fin false 4_503_599_627_370_497 (pos 1)))
    -- one more than 2 ^ 63 - 1 is 2 ^ 63
    ∷ pair (pos 9_223_372_036_854_775_807) 1
    (Between (fin false 9_007_199_254_740_991 (pos 10)) (fin false 1 (pos 63)))
    ∷ []

pub pairs-hold : map (λ (r : PairRow). panel_of_newtons r.newtons r.remainder) pair_rows
    ≡ map (λ (r : PairRow). r.panel) pair_rows
unfolding panel_of gap double of_size size round neg
pairs-hold = refl
