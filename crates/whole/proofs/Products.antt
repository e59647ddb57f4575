-- A product over a sum or a difference of whole numbers.
use mathlib.Core.Path.{◌≡◌, sym, ap, ap₂, ◌∙◌}
use native.Mathlib.Omega.{arith}
use lib.IntN.{ℤ, neg_ℤ, ◌+ℤ◌, ◌-ℤ◌, ◌*ℤ◌, *ℤ_comm}
use Rattle.whole.proofs.Parts.{order, add-law, sub-lawℤ, up_neg, down-neg, up-mul, down-mul, eq-by}
use Rattle.whole.proofs.Order.{*ℤ-+ℤ}

neg-times : (x y : ℤ) → neg_ℤ x *ℤ y ≡ neg_ℤ (x *ℤ y)
neg-times x y = eq-by _ _ (simp (up-mul, down-mul, up_neg, down-neg) (omega arith))

pub minus-times : (x y z : ℤ) → (x -ℤ y) *ℤ z ≡ x *ℤ z -ℤ y *ℤ z
minus-times x y z = *ℤ-+ℤ x (neg_ℤ y) z ∙ ap (λ w. x *ℤ z +ℤ w) (neg-times y z)

pub times-plus : (c x y : ℤ) → c *ℤ x +ℤ c *ℤ y ≡ c *ℤ (x +ℤ y)
times-plus c x y = ap₂ ◌+ℤ◌ (*ℤ_comm c x) (*ℤ_comm c y) ∙ sym (*ℤ-+ℤ x y c) ∙ *ℤ_comm (x +ℤ y) c

-- two differences added up
pub plus-minus : (x y u v : ℤ) → (x -ℤ u) +ℤ (y -ℤ v) ≡ (x +ℤ y) -ℤ (u +ℤ v)
plus-minus x y u v =
    omega (
      arith,
      order,
      sub-lawℤ x u,
      sub-lawℤ y v,
      add-law (x -ℤ u) (y -ℤ v),
      add-law x y,
      add-law u v,
      sub-lawℤ (x +ℤ y) (u +ℤ v),
    )
