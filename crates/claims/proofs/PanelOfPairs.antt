-- The panel of newtons with a remainder, of paper 02, item 14.
use mathlib.Core.Path.{◌≡◌, refl, sym, ap, subst, ◌∙◌}
use Prim.Native.Nat.{ℕ, ◌+◌, ◌^◌, ◌<◌}
use native.Mathlib.Omega.{arith}
use lib.IntN.{ℤ, nat_abs}
use lib.Ieee.{Float}
use Rattle.pair.specs.declared.Pair.{Pair}
use Rattle.panel.specs.declared.Panel.{Panel}
use Rattle.panel.specs.declared.Point.{Point}
use Rattle.panel.specs.Chart.{low_of, high_of}
use Rattle.panel.specs.Pairs.{RightNewtons, panel_of_pair, point_of_pairs}
use Rattle.panel.proofs.Apart.{newtons-right, newtons-unique}
use Rattle.claims.specs.Contract.{Always}
use Rattle.claims.specs.Doubles.{Signed64, PairLowAndHigh, RightPairs}
use Rattle.claims.proofs.Contracts as of

-- ---- the statements

-- "The panel's bracket is of the newtons alone, and is exact when the remainder is zero; otherwise low and high are
-- the newtons and one more."
pub record PairsAreRight : Type 0 where
  pub panel-of-newtons : Always of.panel-of-newtons.Post (λ κ a r s. Signed64 a.0 → RightNewtons a.0 a.1.0 r)
  pub chart-of-pairs : Always of.chart-of-pairs.Post (λ κ a r s. Signed64 a.0.newtons
      → Signed64 a.1.0.newtons → Signed64 a.1.1.0.newtons → RightPairs a.0 a.1.0 a.1.1.0 r)

-- What is right leaves no choice.
abbrev pub PairOne : Type 0
PairOne = (newtons : ℤ) (remainder : ℕ) (p q : Panel) → Signed64 newtons → RightNewtons newtons remainder p
    → RightNewtons newtons remainder q → p ≡ q

abbrev pub PairsOne : Type 0
PairsOne = (x y z : Pair) (p q : Point) → Signed64 x.newtons → Signed64 y.newtons → Signed64 z.newtons
    → RightPairs x y z p → RightPairs x y z q → p ≡ q

-- ---- the proofs

below : (newtons : ℤ) → Signed64 newtons → nat_abs newtons < 2 ^ 63 + 1
below newtons h = omega arith

on-axis : (t : Pair) → Signed64 t.newtons → PairLowAndHigh t (low_of (panel_of_pair t)) (high_of (panel_of_pair t))
on-axis t h =
    record {
      panel = panel_of_pair t;
      right = newtons-right t.newtons (below t.newtons h) t.remainder;
      low-is = refl;
      high_is = refl;
    }

point : (x y z : Pair) → Signed64 x.newtons → Signed64 y.newtons → Signed64 z.newtons
    → RightPairs x y z (point_of_pairs x y z)
point x y z h k l = record { on-x = on-axis x h; on-y = on-axis y k; on-z = on-axis z l }

pub pairs-are-right : PairsAreRight
pairs-are-right =
    record {
      panel-of-newtons = λ κ a r s p h.
          subst (RightNewtons a.0 a.1.0) (sym p) (newtons-right a.0 (below a.0 h) a.1.0);
      chart-of-pairs = λ κ a r s p h k l.
          subst (RightPairs a.0 a.1.0 a.1.1.0) (sym p) (point a.0 a.1.0 a.1.1.0 h k l);
    }

pub pair_one : PairOne
pair_one newtons remainder p q h = newtons-unique newtons (below newtons h) remainder p q

module _ (t : Pair) {low high low' high' : Float} (h : Signed64 t.newtons) (p : PairLowAndHigh t low high)
    (q : PairLowAndHigh t low' high') where
  same : p.panel ≡ q.panel
  same = pair_one t.newtons t.remainder p.panel q.panel h p.right q.right

  low-one : low ≡ low'
  low-one = p.low-is ∙ ap low_of same ∙ sym q.low-is

  high_one : high ≡ high'
  high_one = p.high_is ∙ ap high_of same ∙ sym q.high_is

pub pairs-one : PairsOne
pairs-one x y z p q h k l m n i =
    record {
      x_low = low-one x h m.on-x n.on-x i;
      x_high = high_one x h m.on-x n.on-x i;
      y_low = low-one y k m.on-y n.on-y i;
      y_high = high_one y k m.on-y n.on-y i;
      z_low = low-one z l m.on-z n.on-z i;
      z_high = high_one z l m.on-z n.on-z i;
    }
