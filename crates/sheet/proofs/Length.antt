-- "At most 7 digits" is said of the digits that are read (`digits_in_form`) and of a number (`too_long`): a number is
-- too long
-- exactly if its digits are more than 7.
use Prim.Native.Nat.{ℕ, zero, suc, ◌*◌, ◌/◌, ◌^◌, ◌≤◌, ◌<◌}
use mathlib.Core.Path.{◌≡◌, sym, ◌∙◌}
use native.Mathlib.Nat.{pow-suc}
use native.Mathlib.Omega.{arith}
use lib.Dec.{ltb}
use lib.IntN.{ℤ, nat_abs}
use lib.ListN.{length}
use borrow.Author.Tests.{ltb-true, ltb-false, lt-ltb, le-ltb}
use Rattle.whole.proofs.Tests.{by-test}
use Rattle.whole.specs.Digits.{digits}
use Rattle.whole.proofs.Digits.{length-small, length_more, digits-length}
use Rattle.building.specs.Test.{too_long}

some-digit : (n : ℕ) → 0 < length (digits n)
some-digit n =
    by-test (ltb n 10) (λ e. omega (arith, length-small n (ltb-true n 10 e)))
    (λ e. omega (arith, length_more n (ltb-false n 10 e)))

digits-least : (k n : ℕ) → 10 ^ suc k ≤ n → suc k < length (digits n)
digits-least zero n h = omega (arith, length_more n (omega arith), some-digit (n / 10))
digits-least (suc k) n h =
    let g : 10 ^ suc k * 10 ≤ n = rw pow-suc at h in
    let t : 10 ^ suc k ≤ n / 10 = omega arith in
    let q = digits-least k (n / 10) t in
    by-test (ltb n 10) (λ e. let l = ltb-true n 10 e in omega (arith, q, length-small (n / 10) (omega arith)))
    (λ e. omega (arith, q, length_more n (ltb-false n 10 e)))

pub too-long-is : (z : ℤ) → too_long z ≡ ltb 7 (length (digits (nat_abs z)))
unfolding too_long
too-long-is z =
    by-test (ltb 9999999 (nat_abs z))
    (λ e. let h = ltb-true 9999999 (nat_abs z) e in e ∙ sym (lt-ltb 7 _ (digits-least 6 (nat_abs z) (omega arith))))
    (λ e. let h = ltb-false 9999999 (nat_abs z) e in e ∙ sym (le-ltb 7 _ (digits-length 6 (nat_abs z) (omega arith))))
