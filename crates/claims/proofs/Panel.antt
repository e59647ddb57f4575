-- The panel: "The panel keeps its doubles, but must say when one is not the number itself."
use mathlib.Core.Path.{◌≡◌, refl, sym, ap, subst, ◌∙◌}
use Prim.Native.Nat.{◌<◌, ◌^◌}
use native.Mathlib.Omega.{arith}
use lib.IntN.{ℤ, nat_abs}
use lib.Ieee.{Float}
use Rattle.panel.specs.declared.Panel.{Panel}
use Rattle.panel.specs.declared.Point.{Point}
use Rattle.panel.specs.Bracket.{panel_of}
use Rattle.panel.specs.Chart.{low_of, high_of, point_of}
use Rattle.panel.specs.Right.{Right}
use Rattle.panel.proofs.Right.{panel-right}
use Rattle.panel.proofs.Unique.{right_unique}
use Rattle.answers.specs.Answers.{host_double}
use Rattle.claims.specs.Contract.{Always}
use Rattle.claims.specs.Doubles.{Signed64, LowAndHigh, RightPoint}
use Rattle.claims.proofs.Contracts as of

-- ---- the statements

-- "For any signed 64-bit total the panel gets either the one double equal to it, or, if there is none, the nearest
-- double below and the nearest above. Zero is positive zero."
pub record PanelIsRight : Type 0 where
  pub panel-of : Always of.panel-of.Post (λ κ a r s. Signed64 a.0 → Right a.0 r)
  pub aral-panel : Always of.aral-panel.Post
      (λ κ a r s. Signed64 a.0 → (p : Panel) × Right a.0 p × (r ≡ host_double p))

-- "A chart point is a record of low and high doubles for the three axes; where exact, low and high are the same."
pub record ChartIsRight : Type 0 where
  pub chart : Always of.chart.Post (λ κ a r s. Signed64 a.0 → Signed64 a.1.0 → Signed64 a.1.1.0
      → RightPoint a.0 a.1.0 a.1.1.0 r)
  pub aral-chart : Always of.aral-chart.Post (λ κ a r s. Signed64 a.0 → Signed64 a.1.0 → Signed64 a.1.1.0
      → RightPoint a.0 a.1.0 a.1.1.0 r)

-- What is right leaves no choice.
abbrev pub RightOne : Type 0
RightOne = (total : ℤ) (p q : Panel) → Signed64 total → Right total p → Right total q → p ≡ q

abbrev pub ChartOne : Type 0
ChartOne = (x y z : ℤ) (p q : Point) → Signed64 x → Signed64 y → Signed64 z → RightPoint x y z p → RightPoint x y z q
    → p ≡ q

-- ---- the proofs

below : (total : ℤ) → Signed64 total → nat_abs total < 2 ^ 64
below total h = omega arith

right : (total : ℤ) → Signed64 total → Right total (panel_of total)
right total h = panel-right total (below total h)

pub panel-is-right : PanelIsRight
panel-is-right =
    record {
      panel-of = λ κ a r s p h. subst (Right a.0) (sym p) (right a.0 h);
      aral-panel = λ κ a r s p h. (panel_of a.0, right a.0 h, p);
    }

on-axis : (total : ℤ) → Signed64 total → LowAndHigh total (low_of (panel_of total)) (high_of (panel_of total))
on-axis total h = record { panel = panel_of total; right = right total h; low-is = refl; high_is = refl }

point : (x y z : ℤ) → Signed64 x → Signed64 y → Signed64 z → RightPoint x y z (point_of x y z)
point x y z h k l = record { on-x = on-axis x h; on-y = on-axis y k; on-z = on-axis z l }

pub chart-is-right : ChartIsRight
chart-is-right =
    record {
      chart = λ κ a r s p h k l.
          subst (RightPoint a.0 a.1.0 a.1.1.0) (sym p) (point a.0 a.1.0 a.1.1.0 h k l);
      aral-chart = λ κ a r s p h k l.
          subst (RightPoint a.0 a.1.0 a.1.1.0) (sym p) (point a.0 a.1.0 a.1.1.0 h k l);
    }

pub right-one : RightOne
right-one total p q h = right_unique total p q (below total h)

module _ (total : ℤ) {low high low' high' : Float} (h : Signed64 total) (p : LowAndHigh total low high)
    (q : LowAndHigh total low' high') where
  same : p.panel ≡ q.panel
  same = right-one total p.panel q.panel h p.right q.right

  low-one : low ≡ low'
  low-one = p.low-is ∙ ap low_of same ∙ sym q.low-is

  high_one : high ≡ high'
  high_one = p.high_is ∙ ap high_of same ∙ sym q.high_is

pub chart-one : ChartOne
chart-one x y z p q h k l m n i =
    record {
      x_low = low-one x h m.on-x n.on-x i;
      x_high = high_one x h m.on-x n.on-x i;
      y_low = low-one y k m.on-y n.on-y i;
      y_high = high_one y k m.on-y n.on-y i;
      z_low = low-one z l m.on-z n.on-z i;
      z_high = high_one z l m.on-z n.on-z i;
    }
