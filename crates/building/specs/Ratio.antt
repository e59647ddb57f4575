-- Ratios of two lengths, compared exactly: nothing is divided.
use Rattle.std.specs.Prelude.{Bool, cond, List, [], ◌∷◌, ℕ, ◌+◌, ◌*◌, leb}

-- a printed limit, as 3 ÷ 2
pub record Limit : Type 0 where
  pub over : ℕ
  pub under : ℕ

infix 60 ◌÷◌
abbrev pub ◌÷◌ : ℕ → ℕ → Limit
n ÷ d = record { over = n; under = d }

-- y/z comes up to the limit, its end included
abbrev pub up_to : ℕ → ℕ → Limit → Bool
up_to y z t = leb (t.under * y) (t.over * z)

-- the first of a list of limits up to which y/z comes, the list's own first being number i
abbrev pub first_up_to : ℕ → List Limit → ℕ → ℕ → ℕ
first_up_to i [] y z = i
first_up_to i (t ∷ ts) y z = cond (up_to y z t) i (first_up_to (i + 1) ts y z)
