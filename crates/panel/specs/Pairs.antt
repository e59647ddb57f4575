-- The panel of a total that is newtons with a remainder: "The panel's bracket is of the newtons alone, and is exact
-- when the remainder is zero; otherwise low and high are the newtons and one more."
-- Newtons that no double equals are shown as a total is, so that low is never above them and high never below: low is
-- the double equal to the newtons or the nearest below, and high the double equal to one more or the nearest above.
use Rattle.std.specs.Prelude.{◌≡◌, ℕ, zero, suc, ℤ, pos, ◌+ℤ◌, Float}
use Rattle.pair.specs.declared.Pair.{Pair}
use Rattle.panel.specs.declared.Panel.{Panel}
use Rattle.panel.specs.declared.Panel.TheVariants.{Exact, Between}
use Rattle.panel.specs.declared.Point.{Point}
use Rattle.panel.specs.Right.{Right}
use Rattle.panel.specs.Bracket.{panel_of}
use Rattle.panel.specs.Chart.{low_of, high_of, point_in}

-- ---- what is right

pub record IsApart (newtons : ℤ) (low high : Float) : Type 0 where
  pub here : Panel
  pub here-right : Right newtons here
  pub low-is : low ≡ low_of here
  pub next : Panel
  pub next-right : Right (newtons +ℤ pos 1) next
  pub high_is : high ≡ high_of next

abbrev pub RightNewtons : ℤ → ℕ → Panel → Type 0
RightNewtons newtons zero p = Right newtons p
RightNewtons newtons (suc r) (Exact x) = ⊥
RightNewtons newtons (suc r) (Between low high) = IsApart newtons low high

-- ---- how it is reckoned

abbrev pub panel_of_newtons : ℤ → ℕ → Panel
panel_of_newtons newtons zero = panel_of newtons
panel_of_newtons newtons (suc r) = Between (low_of (panel_of newtons)) (high_of (panel_of (newtons +ℤ pos 1)))

abbrev pub panel_of_pair : Pair → Panel
panel_of_pair p = panel_of_newtons p.newtons p.remainder

abbrev pub point_of_pairs : Pair → Pair → Pair → Point
point_of_pairs x y z = point_in (panel_of_pair x) (panel_of_pair y) (panel_of_pair z)
