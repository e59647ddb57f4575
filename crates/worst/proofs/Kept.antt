-- What is kept of an earlier cell and a later one: the later only where there is no earlier one, or that falls short
-- of it.
use mathlib.Core.Path.{◌≡◌, refl, ◌∙◌}
use mathlib.Core.Bool.{true, false}
use Prim.Native.Nat.{ℕ, ◌<◌}
use native.Mathlib.Omega.{arith}
use borrow.Author.Tests.{eq-eqb, ne_eqb}
use lib.IntN.{ℤ}
use Rattle.pair.specs.declared.Pair.{Pair}
use Rattle.pair.specs.Total.{no_pair}
use Rattle.worst.specs.declared.Side.{Side}
use Rattle.worst.specs.declared.Side.TheVariants.{Greatest, Least}
use Rattle.worst.specs.declared.Axis.{Axis}
use Rattle.worst.specs.declared.Axis.TheVariants.{X, Y, Z}
use Rattle.worst.specs.declared.tops.Ends.{Ends}
use Rattle.worst.specs.Best.{short, none, at, better}
use Rattle.worst.specs.Engine.{cell, top_with, top_by, no_tops, no_ends, top_at}
use Rattle.worst.specs.Proper.{Proper, ProperTops, ProperEnds}

-- of an earlier total, wind and internal coefficient, and a later one
module _ (s : Side) (u : ℤ) (x k : ℕ) (v : ℤ) (w i : ℕ) where
  module _ (some : 0 < w) where
    made-is : top_with v w i ≡ at v (cell w i)
    made-is = rw (ne_eqb w 0 (omega arith))

    pub kept-first : x ≡ 0 → top_with v w i ≡ better s (top_with u x k) (at v (cell w i))
    unfolding better
    kept-first e = made-is ∙ rw (eq-eqb x 0 e)

    pub kept-later : (x ≡ 0 → ⊥) → short s u v ≡ true → top_with v w i ≡ better s (top_with u x k) (at v (cell w i))
    unfolding better
    kept-later e h = made-is ∙ rw (ne_eqb x 0 e, h)

  pub kept-earlier : (x ≡ 0 → ⊥) → short s u v ≡ false → top_with u x k ≡ better s (top_with u x k) (at v (cell w i))
  unfolding better
  kept-earlier e h = rw (ne_eqb x 0 e, h)

-- what holds on both sides
pub either : (P : Side → Type 0) → P Greatest → P Least → (s : Side) → P s
either P g l Greatest = g
either P g l Least = l

-- and on every axis
pub every-axis : (P : Axis → Type 0) → P X → P Y → P Z → (axis : Axis) → P axis
every-axis P x y z X = x
every-axis P x y z Y = y
every-axis P x y z Z = z

-- a top whose total is one
pub proper-top : (e : Ends Pair) → ProperEnds e → (axis : Axis) (s : Side) → Proper (top_at axis s e).total
proper-top e p X Greatest = p.x.greatest
proper-top e p X Least = p.x.least
proper-top e p Y Greatest = p.y.greatest
proper-top e p Y Least = p.y.least
proper-top e p Z Greatest = p.z.greatest
proper-top e p Z Least = p.z.least

-- at first there is no top
pub no_top : {T : Type 0} (number : T → ℤ) (zero : T) (axis : Axis) (s : Side)
    → top_by number (top_at axis s (no_ends zero)) ≡ none
no_top number zero X Greatest = refl
no_top number zero X Least = refl
no_top number zero Y Greatest = refl
no_top number zero Y Least = refl
no_top number zero Z Greatest = refl
no_top number zero Z Least = refl

pub no-ends-proper : ProperEnds (no_ends no_pair)
no-ends-proper =
    let zero : Proper no_pair = refl in
    let none : ProperTops (no_tops no_pair) = record { greatest = zero; least = zero } in
    record { x = none; y = none; z = none }
