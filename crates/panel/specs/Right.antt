-- What the panel must get for a total: "either the one double equal to it, or, if there is none, the nearest double
-- below and the nearest above. Zero is positive zero."
-- That this leaves no choice is `right_unique` (proofs/Unique.antt), and that the reckoned panel is right is
-- `panel-right` (proofs/Right.antt).
use Rattle.std.specs.Prelude.{◌≡◌, T, ℤ, pos, Float}
use Rattle.std.specs.Float.Ieee.{eq, lt}
use Rattle.panel.specs.declared.Panel.{Panel}
use Rattle.panel.specs.declared.Panel.TheVariants.{Exact, Between}
use Rattle.panel.specs.Double.{IsDouble, number_itself, positive_zero}

pub record IsExact (total : ℤ) (x : Float) : Type 0 where
  pub double : IsDouble x
  pub equal : T (eq x (number_itself total))
  pub zero : total ≡ pos 0 → x ≡ positive_zero

-- low < total < high, and no double lies between the two: so none equals the total either
pub record IsBetween (total : ℤ) (low high : Float) : Type 0 where
  pub low-double : IsDouble low
  pub high-double : IsDouble high
  pub below : T (lt low (number_itself total))
  pub above : T (lt (number_itself total) high)
  pub nearest : (x : Float) → IsDouble x → T (lt low x) → T (lt x high) → ⊥

abbrev pub Right : ℤ → Panel → Type 0
Right total (Exact x) = IsExact total x
Right total (Between low high) = IsBetween total low high
