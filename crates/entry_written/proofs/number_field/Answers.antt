-- `number_field` meets its contract.
use Prim.Native.Nat.{◌≤◌}
use mathlib.Core.Bool.{Bool, false}
use mathlib.Core.Path.{◌≡◌, ◌∙◌, ap, sym}
use native.Mathlib.Omega.{arith}
use lib.IntN.{ℤ, pos, nat_abs}
use lib.Signed.{lt_z}
use mir.Syntax.{w64}
use mir.Val.{to_z, of_z}
use Rattle.whole.proofs.Size.{said, returned}
use Rattle.building.specs.Test.{too_long}
use Rattle.entry_written.proofs.Slots.{number-long, number_short, size_small, signed_below, signed_above}
use Rattle.entry_written.proofs.number_field.Goals.{After-magnitude-m, Start}
use Rattle.entry_written.proofs.number_field.Goals as goal

-- behind the test of its length
module _ (c : After-magnitude-m) where
  abbrev start : Start
  start = (goal.at.After-magnitude-m c).Start

  abbrev z : ℤ
  z = start.args.z

  short : too_long z ≡ false
  short = sym (said too_long z c.too_long.ensures start.ranges.z.sfits) ∙ c.if-too_long.false

  size : c.magnitude-m.result ≡ nat_abs z
  size = said nat_abs z c.magnitude-m.ensures start.ranges.z.sfits

  small : c.magnitude-m.result ≤ 9999999
  small = omega (arith, size, size_small z short)

  sign : (t : Bool) → lt_z (to_z w64 (of_z w64 z)) (pos 0) ≡ t → lt_z z (pos 0) ≡ t
  sign t e = ap (λ (y : ℤ). lt_z y (pos 0)) (sym (returned w64 z start.ranges.z.sfits).same) ∙ e

pub returns-then-too_long : goal.returns-then-too_long
returns-then-too_long c =
    let z = c.args.z in
    number-long z (sym (said too_long z c.too_long.ensures c.ranges.z.sfits) ∙ c.if-too_long.true)

pub overflow_cast-result : goal.overflow_cast-result
overflow_cast-result c = omega (arith, small (goal.at.overflow_cast-result c).After-magnitude-m)

pub returns-then-z-lt0 : goal.returns-then-z-lt0
returns-then-z-lt0 c =
    let m = (goal.at.returns-then-z-lt0 c).After-magnitude-m in
    signed_below (z m) (size m) (sign m _ c.if-z-lt0.true) ∙ number_short (z m) (short m)

pub overflow_cast-result-2 : goal.overflow_cast-result-2
overflow_cast-result-2 c = omega (arith, small (goal.at.overflow_cast-result-2 c).After-magnitude-m)

pub returns : goal.returns
returns c =
    let m = (goal.at.returns c).After-magnitude-m in
    signed_above (z m) (size m) (sign m _ c.if-z-lt0.false) ∙ number_short (z m) (short m)
