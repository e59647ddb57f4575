-- What a number written in decimal is: its digits, after a minus sign where it is negative.
use Rattle.std.specs.Prelude.{ℕ, suc, List, ◌∷◌, ℤ, pos, negsuc}
use Rattle.whole.specs.Digits.{AreDigits}

pub data IsDecimal : ℤ → List ℕ → Type 0 where
  plain : {n : ℕ} {ds : List ℕ} → AreDigits n ds → IsDecimal (pos n) ds
  minus : {n : ℕ} {ds : List ℕ} → AreDigits (suc n) ds → IsDecimal (negsuc n) (45 ∷ ds)
