-- A number as a field, by the tests that the code makes.
use Prim.Native.Nat.{ℕ, ◌^◌, ◌≤◌, ◌<◌}
use mathlib.Core.Path.{◌≡◌, ap}
use mathlib.Core.Bool.{true, false, true≢false}
use native.Mathlib.Omega.{arith}
use lib.IntN.{ℤ, pos, negsuc, nat_abs}
use lib.Signed.{mag, lt_z}
use mir.Syntax.{w64}
use mir.Val.{to_z, of_z}
use borrow.Author.Tests.{ltb-true, ltb-false}
use Rattle.whole.proofs.Size.{said}
use Rattle.field.specs.declared.Field.TheVariants.{Bad, Plus, Minus, Dash}
use Rattle.lines.specs.declared.Slot.{Slot}
use Rattle.lines.specs.Held.{slot}
use Rattle.building.specs.Test.{is, too_long}
use Rattle.entry.specs.Says.{both}
use Rattle.entry_written.specs.Fields.{signed, number_field, mark_field}

module _ (z : ℤ) where
  pub number-long : too_long z ≡ true → Bad ≡ number_field z
  unfolding number_field
  number-long h = rw h

  pub number_short : too_long z ≡ false → signed z ≡ number_field z
  unfolding number_field
  number_short h = rw h

  pub mark-both : is both z ≡ true → Dash ≡ mark_field z
  unfolding mark_field
  mark-both h = rw h

  pub mark-one : is both z ≡ false → number_field z ≡ mark_field z
  unfolding mark_field
  mark-one h = rw h

  -- 7 digits, so that 32 bits hold its size
  pub size_small : too_long z ≡ false → nat_abs z ≤ 9999999
  unfolding too_long
  size_small h = ltb-false 9999999 (nat_abs z) h

-- by its sign, where m is its size
pub signed_below : (z : ℤ) {m : ℕ} → m ≡ nat_abs z → lt_z z (pos 0) ≡ true → Minus m ≡ signed z
signed_below (pos n) e t = absurd (omega (arith, ltb-true n 0 t))
signed_below (negsuc n) e t = ap Minus e

pub signed_above : (z : ℤ) {m : ℕ} → m ≡ nat_abs z → lt_z z (pos 0) ≡ false → Plus m ≡ signed z
signed_above (pos n) e t = ap Plus e
signed_above (negsuc n) e t = absurd (true≢false t)

-- a number of a record, which the machine hands on as bits
pub slot_is : (z : ℤ) {r : Slot} → mag z < 2 ^ 63 → r ≡ slot (number_field (to_z w64 (of_z w64 z)))
    → r ≡ slot (number_field z)
slot_is z h e = said (λ (y : ℤ). slot (number_field y)) z e h

pub mark-is : (z : ℤ) {r : Slot} → mag z < 2 ^ 63 → r ≡ slot (mark_field (to_z w64 (of_z w64 z)))
    → r ≡ slot (mark_field z)
mark-is z h e = said (λ (y : ℤ). slot (mark_field y)) z e h
