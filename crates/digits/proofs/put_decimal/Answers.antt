-- `put_decimal` meets its contract: the sign is put, and then the digits of the size.
use mathlib.Core.Path.{◌≡◌, ap, ◌∙◌}
use mathlib.Core.List.{◌∷◌}
use native.Mathlib.Omega.{arith}
use Rattle.std.proofs.lemmas.Int.{ints}
use lib.IntN.{nat_abs}
use mir.Syntax.{w64}
use mir.ValLaws.{to_z-of_z}
use Rattle.page.proofs.Put.{then}
use Rattle.whole.specs.Digits.{digits, decimal}
use Rattle.whole.proofs.Digits.{decimal-below, decimal-above}
use Rattle.digits.proofs.put_decimal.Goals.{Else-z-lt0, Then-z-lt0}
use Rattle.digits.proofs.put_decimal.Goals as goal

-- the text, in either arm
below : (c : Then-z-lt0) → decimal c.args.z ≡ 45 ∷ digits c.magnitude-m.result
below c =
    let z = c.args.z in
    let bits = to_z-of_z w64 z c.ranges.z in
    decimal-below z c.magnitude-m.result
    (grind (arith, ints))
    (c.magnitude-m.ensures ∙ ap nat_abs bits)

above : (c : Else-z-lt0) → decimal c.args.z ≡ digits c.magnitude-m.result
above c =
    let z = c.args.z in
    let bits = to_z-of_z w64 z c.ranges.z in
    decimal-above z c.magnitude-m.result
    (grind (arith, ints))
    (c.magnitude-m.ensures ∙ ap nat_abs bits)

pub returns-then-z-lt0 : goal.returns-then-z-lt0
returns-then-z-lt0 c =
    rw (below (goal.at.returns-then-z-lt0 c).Then-z-lt0) (then c.put_byte-next.ensures c.put_natural.ensures)

pub returns : goal.returns
returns c =
    rw (above (goal.at.returns c).Else-z-lt0) c.put_natural-2.ensures
