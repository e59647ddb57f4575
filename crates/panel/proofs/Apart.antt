-- Newtons with a remainder: the reckoned panel is right, and nothing else is.
use mathlib.Core.Path.{◌≡◌, refl, sym, ap, ◌∙◌}
use Prim.Native.Nat.{ℕ, zero, suc, ◌+◌, ◌^◌, ◌<◌}
use native.Mathlib.Omega.{arith}
use lib.IntN.{ℤ, pos, negsuc, nat_abs, ◌+ℤ◌}
use lib.Signed.{◌≤ℤ◌}
use Rattle.whole.proofs.Size.{nat_abs-add}
use Rattle.panel.specs.declared.Panel.{Panel}
use Rattle.panel.specs.declared.Panel.TheVariants.{Exact, Between}
use Rattle.panel.specs.Bracket.{of_size, panel_of}
use Rattle.panel.specs.Chart.{low_of, high_of}
use Rattle.panel.specs.Pairs.{RightNewtons, panel_of_newtons}
use Rattle.panel.proofs.Right.{panel-right}
use Rattle.panel.proofs.Unique.{right-only}

-- ---- for the code

pub nothing_left : (z : ℤ) (r : ℕ) → r ≡ 0 → panel_of z ≡ panel_of_newtons z r
nothing_left z zero e = refl
nothing_left z (suc r) e = absurd (omega arith)

pub something-left : (z : ℤ) (r : ℕ) → 0 < r
    → Between (low_of (panel_of z)) (high_of (panel_of (z +ℤ pos 1))) ≡ panel_of_newtons z r
something-left z zero h = absurd (omega arith)
something-left z (suc r) h = refl

pub next-above : (z : ℤ) → pos 0 ≤ℤ z → of_size (nat_abs z + 1) ≡ panel_of (z +ℤ pos 1)
unfolding panel_of
next-above (pos n) h = refl
next-above (negsuc n) h = absurd h.le

-- ---- for the reader

module _ (z : ℤ) (h : nat_abs z < 2 ^ 63 + 1) where
  this : nat_abs z < 2 ^ 64
  this = omega arith

  next : nat_abs (z +ℤ pos 1) < 2 ^ 64
  next = omega (arith, nat_abs-add z (pos 1))

  pub newtons-right : (r : ℕ) → RightNewtons z r (panel_of_newtons z r)
  newtons-right zero = panel-right z this
  newtons-right (suc r) =
      record {
        here = panel_of z;
        here-right = panel-right z this;
        low-is = refl;
        next = panel_of (z +ℤ pos 1);
        next-right = panel-right (z +ℤ pos 1) next;
        high_is = refl;
      }

  pub newtons-only : (r : ℕ) (p : Panel) → RightNewtons z r p → p ≡ panel_of_newtons z r
  newtons-only zero p g = right-only z p this g
  newtons-only (suc r) (Exact x) g = absurd g
  newtons-only (suc r) (Between low high) g =
      let l = g.low-is ∙ ap low_of (right-only z g.here this g.here-right) in
      let t = g.high_is ∙ ap high_of (right-only (z +ℤ pos 1) g.next next g.next-right) in
      λ i. Between (l i) (t i)

  pub newtons-unique : (r : ℕ) (p q : Panel) → RightNewtons z r p → RightNewtons z r q → p ≡ q
  newtons-unique r p q f g = newtons-only r p f ∙ sym (newtons-only r q g)
