-- A test of numbers as the machine has them, said of the numbers, and the last arm of a `match`.
use mathlib.Core.Path.{◌≡◌, refl, sym, ap, ◌∙◌}
use mathlib.Core.Bool.{Bool, true, false, ◌&&◌, ◌||◌, true≢false}
use Prim.Native.Nat.{ℕ, zero, suc, ◌^◌, ◌≤◌, ◌<◌}
use native.Mathlib.Omega.{arith}
use lib.Dec.{eqb}
use lib.IntN.{ℤ, pos, negsuc}
use lib.Signed.{mag}
use mir.Syntax.{w64}
use mir.Val.{to_z, of_z}
use borrow.Author.Tests.{eq-eqb, ne_eqb, eqb-true}
use Rattle.whole.proofs.Size.{returned}
use Rattle.whole.proofs.Tests.{by-test}
use Rattle.building.specs.Test.{is}

-- two numbers are the same exactly if their bits are
is-self : (z : ℤ) → is z z ≡ true
is-self (pos k) = eq-eqb k k refl
is-self (negsuc k) = eq-eqb k k refl

pub is_same : (n z : ℤ) → is n z ≡ true → z ≡ n
is_same (pos n) (pos k) e = ap pos (eqb-true k n e)
is_same (pos n) (negsuc k) e = absurd (true≢false (sym e))
is_same (negsuc n) (pos k) e = absurd (true≢false (sym e))
is_same (negsuc n) (negsuc k) e = ap negsuc (eqb-true k n e)

module _ (n z : ℤ) (h : mag n < 2 ^ 63) (k : mag z < 2 ^ 63) where
  pub same_bits : eqb (of_z w64 z) (of_z w64 n) ≡ is n z
  same_bits =
      by-test (is n z)
      (λ e. eq-eqb _ _ (ap (of_z w64) (is_same n z e)) ∙ sym e)
      (λ e.
      ne_eqb (of_z w64 z) (of_z w64 n) (λ q. true≢false (sym (is-self n) ∙ ap (is n) (sym (read_back q)) ∙ e)) ∙ sym e)
    where
      read_back : of_z w64 z ≡ of_z w64 n → z ≡ n
      read_back q = sym (returned w64 z k).same ∙ ap (to_z w64) q ∙ (returned w64 n h).same

  -- as a branch knows it
  pub bits-same : of_z w64 z ≡ of_z w64 n → is n z ≡ true
  bits-same e = sym same_bits ∙ eq-eqb _ _ e

  pub bits-other : (of_z w64 z ≡ of_z w64 n → ⊥) → is n z ≡ false
  bits-other e = sym same_bits ∙ ne_eqb _ _ e

-- ---- a test that goes on to its second only where the first leaves it open

pub or_here : {s t : Bool} (u : Bool) → s ≡ true → s ≡ t → s ≡ (t || u)
or_here u p q = rw (sym q ∙ p) p

pub or_there : {s t u r : Bool} → s ≡ false → s ≡ t → r ≡ u → r ≡ (t || u)
or_there p q e = rw (sym q ∙ p) e

pub and_here : {s t : Bool} (u : Bool) → s ≡ false → s ≡ t → s ≡ (t && u)
and_here u p q = rw (sym q ∙ p) p

pub and_there : {s t u r : Bool} → s ≡ true → s ≡ t → r ≡ u → r ≡ (t && u)
and_there p q e = rw (sym q ∙ p) e

-- ---- a number that none of the arms 0 to k - 1 of a `match` names, and is no more than k, is k

abbrev pub NoArm : ℕ → ℕ → Type 0
NoArm n zero = Unit {0}
NoArm n (suc k) = NoArm n k × (n ≡ k → ⊥)

past-arms : (n k : ℕ) → NoArm n k → k ≤ n
past-arms n zero none = omega arith
past-arms n (suc k) (none, d) = let h = past-arms n k none in omega arith

pub last_arm : (n k : ℕ) → NoArm n k → n ≤ k → n ≡ k
last_arm n k none h = omega (arith, past-arms n k none)
