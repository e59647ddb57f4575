-- The definition's decimal is a number written in decimal, and nothing else is.
use Prim.Native.Nat.{ℕ, suc}
use mathlib.Core.Path.{◌≡◌, sym, ap, ◌∙◌}
use mathlib.Core.List.{List, ◌∷◌}
use lib.IntN.{ℤ, pos, negsuc}
use Rattle.whole.specs.Digits.{decimal}
use Rattle.whole.proofs.AreDigits.{digits_are, digits-only}
use Rattle.claims.specs.Decimal.{IsDecimal, plain, minus}

pub decimal-is : (z : ℤ) → IsDecimal z (decimal z)
unfolding decimal
decimal-is (pos n) = plain (digits_are n)
decimal-is (negsuc n) = minus (digits_are (suc n))

decimal-only : {z : ℤ} {t : List ℕ} → IsDecimal z t → t ≡ decimal z
unfolding decimal
decimal-only (plain {n} {ds} a) = digits-only n ds a
decimal-only (minus {n} {ds} a) = ap (λ t. 45 ∷ t) (digits-only (suc n) ds a)

pub decimal-unique : {z : ℤ} {t u : List ℕ} → IsDecimal z t → IsDecimal z u → t ≡ u
decimal-unique a b = decimal-only a ∙ sym (decimal-only b)
