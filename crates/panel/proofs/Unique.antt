-- What is right leaves no choice: whatever is right for a total is the reckoned panel, so any two that are right are
-- equal.
use mathlib.Core.Path.{◌≡◌, sym, ap, ◌∙◌, subst}
use Prim.Native.Nat.{ℕ, suc, ◌%◌, ◌^◌, ◌<◌}
use native.Mathlib.Nat.{le_of_lt, mul-le-mul}
use native.Mathlib.Omega.{arith}
use native.Mathlib.Decide.{ℕ_discrete}
use lib.Dec.{T}
use lib.IntN.{ℤ, pos, negsuc, nat_abs}
use lib.Ieee.{Float, nan, lt}
use Rattle.whole.proofs.Tests.{is_false}
use Rattle.panel.specs.declared.Panel.{Panel}
use Rattle.panel.specs.declared.Panel.TheVariants.{Exact, Between}
use Rattle.panel.specs.Double.{IsDouble, number_itself}
use Rattle.panel.specs.Right.{IsExact, IsBetween, Right}
use Rattle.panel.specs.Bracket.{gap, double, step_below, step_above, of_size, mirrored, panel_of}
use Rattle.panel.proofs.Gap.{gap-pos, some-dropped, kept_full, lower-lt, upper-gt}
use Rattle.panel.proofs.Product.{size_exact, size-between}
use Rattle.panel.proofs.Worth.{Worth, worth-unique, exact-worth}
use Rattle.panel.proofs.Order.{lt-worth, worth-lt, lt-number-le, le-number-lt, worth-by-order}
use Rattle.panel.proofs.Negative.{right-mirrored, mirrored-mirrored}
use Rattle.panel.proofs.Right.{is-double, lower-worth, upper-worth, exact-right, between-right}

-- a double equal to the total would lie between the two
pub not-both : (total : ℤ) (x low high : Float) → IsExact total x → IsBetween total low high → ⊥
not-both total x low high e b =
    let v = exact-worth total x e in
    b.nearest x e.double (rw (lt-worth total low x v) b.below) (rw (worth-lt total x high v) b.above)

-- two doubles, neither below the other
one_place : (a : ℕ) (x y : Float) → 0 < a → IsDouble x → IsDouble y → Worth (pos a) y → (x ≡ nan → ⊥)
    → (T (lt x y) → ⊥) → (T (lt y x) → ⊥) → x ≡ y
one_place a x y h d e v n l g =
    worth-unique (pos a) x y d e
    (worth-by-order x a h n
    (is_false (lt x (number_itself (pos a))) (λ t. l (rw (lt-worth (pos a) x y v) t)))
    (is_false (lt (number_itself (pos a)) x) (λ t. g (rw (worth-lt (pos a) y x v) t))))
    v

-- the bracket of n, beside another that is right for n
module _ (n : ℕ) (h : n < 2 ^ 64) (f : n % gap n ≡ 0 → ⊥) (low high : Float) (r : IsBetween (pos n) low high) where
  low-upper : T (lt low (double (step_above n)))
  low-upper =
      rw (lt-worth (pos (step_above n)) low (double (step_above n)) (upper-worth n h))
      (lt-number-le low n (step_above n) (le_of_lt (upper-gt n)) r.below)

  lower_high : T (lt (double (step_below n)) high)
  lower_high =
      rw (worth-lt (pos (step_below n)) (double (step_below n)) high (lower-worth n h))
      (le-number-lt high (step_below n) n (le_of_lt (lower-lt n f)) r.above)

  low-is : low ≡ double (step_below n)
  unfolding lt
  low-is =
      one_place (step_below n) low (double (step_below n))
      (omega (arith, mul-le-mul (kept_full n (some-dropped n f)) (gap-pos n)))
      r.low-double (is-double (step_below n)) (lower-worth n h)
      (λ e. subst (λ (w : Float). T (lt w (number_itself (pos n)))) e r.below)
      (λ t. r.nearest (double (step_below n)) (is-double (step_below n)) t lower_high)
      (λ t. (between-right n h f).nearest low r.low-double t low-upper)

  high_is : high ≡ double (step_above n)
  unfolding lt
  high_is =
      one_place (step_above n) high (double (step_above n))
      (omega (arith, upper-gt n))
      r.high-double (is-double (step_above n)) (upper-worth n h)
      (λ e. subst (λ (w : Float). T (lt (number_itself (pos n)) w)) e r.above)
      (λ t. (between-right n h f).nearest high r.high-double lower_high t)
      (λ t. r.nearest (double (step_above n)) (is-double (step_above n)) low-upper t)

size-only : (n : ℕ) (p : Panel) → n < 2 ^ 64 → Right (pos n) p → p ≡ of_size n
size-only n p h r = go (ℕ_discrete (n % gap n) 0) p r
  where
    go : Dec (n % gap n ≡ 0) → (p : Panel) → Right (pos n) p → p ≡ of_size n
    go (yes e) (Exact x) r =
        let s = exact-right n h e in
        ap Exact
        (worth-unique (pos n) x (double n) r.double s.double (exact-worth (pos n) x r)
        (exact-worth (pos n) (double n) s))
        ∙ sym (size_exact n e)
    go (yes e) (Between low high) r = absurd (not-both (pos n) (double n) low high (exact-right n h e) r)
    go (no f) (Exact x) r =
        absurd (not-both (pos n) x (double (step_below n)) (double (step_above n)) r (between-right n h f))
    go (no f) (Between low high) r =
        (λ i. Between (low-is n h f low high r i) (high_is n h f low high r i)) ∙ sym (size-between n f)

pub right-only : (total : ℤ) (p : Panel) → nat_abs total < 2 ^ 64 → Right total p → p ≡ panel_of total
unfolding panel_of
right-only (pos n) p h r = size-only n p h r
right-only (negsuc n) p h r =
    sym (mirrored-mirrored p)
    ∙ ap mirrored (size-only (suc n) (mirrored p) h (right-mirrored (negsuc n) p (omega arith) r))

pub right_unique : (total : ℤ) (p q : Panel) → nat_abs total < 2 ^ 64 → Right total p → Right total q → p ≡ q
right_unique total p q h r s = right-only total p h r ∙ sym (right-only total q h s)
