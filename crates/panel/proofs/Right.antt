-- The reckoned panel is right: it is the double that equals the total, or two doubles with the total between them and
-- no double between the two.
use mathlib.Core.Path.{◌≡◌, subst}
use mathlib.Core.Bool.{false}
use Prim.Native.Nat.{ℕ, suc, ◌+◌, ◌*◌, ◌-◌, ◌/◌, ◌%◌, ◌^◌, ◌<◌}
use native.Mathlib.Nat.{le_of_lt}
use native.Mathlib.Omega.{arith}
use native.Mathlib.Decide.{ℕ_discrete}
use lib.Dec.{T, lt→ltb}
use lib.IntN.{ℤ, pos, negsuc, nat_abs}
use lib.Ieee.{Float, binary64, size, lt}
use lib.Ieee.Fits.{round-fits}
use Rattle.panel.specs.Double.{IsDouble, number_itself}
use Rattle.panel.specs.Right.{IsExact, IsBetween, Right}
use Rattle.panel.specs.Bracket.{gap, double, step_below, step_above, of_size, panel_of}
use Rattle.panel.proofs.Gap.{dropped-few, kept_small, some-dropped, kept_full, lower-is, lower-lt, upper-gt}
use Rattle.panel.proofs.Product.{size_exact, size-between}
use Rattle.panel.proofs.Worth.{Worth, worth-exact, double-worth}
use Rattle.panel.proofs.Order.{lt-worth, worth-lt, none_between}
use Rattle.panel.proofs.Negative.{right-mirrored}

pub is-double : (n : ℕ) → IsDouble (double n)
unfolding double
is-double n = round-fits binary64 false n 1

numbers-lt : (a b : ℕ) → a < b → T (lt (number_itself (pos a)) (number_itself (pos b)))
unfolding lt
numbers-lt a b h = lt→ltb (a * 1 * 1) (b * 1 * 1) (omega arith)

module _ (n : ℕ) (h : n < 2 ^ 64) where
  pub lower-worth : Worth (pos (step_below n)) (double (step_below n))
  unfolding gap
  lower-worth = double-worth (n / gap n) (size n - 53) (le_of_lt (kept_small n)) (dropped-few n h)

  pub upper-worth : Worth (pos (step_above n)) (double (step_above n))
  unfolding gap
  upper-worth = double-worth (n / gap n + 1) (size n - 53) (omega (arith, kept_small n)) (dropped-few n h)

  pub exact-right : n % gap n ≡ 0 → IsExact (pos n) (double n)
  exact-right e =
      worth-exact (pos n) (double n) (is-double n)
      (subst (λ (m : ℕ). Worth (pos m) (double m)) (lower-is n e) lower-worth)

  nearest : (n % gap n ≡ 0 → ⊥) → (x : Float) → IsDouble x → T (lt (number_itself (pos (step_below n))) x)
      → T (lt x (number_itself (pos (step_above n)))) → ⊥
  unfolding gap
  nearest f = none_between (n / gap n) (size n - 53) (kept_full n (some-dropped n f)) (some-dropped n f)

  pub between-right : (n % gap n ≡ 0 → ⊥) → IsBetween (pos n) (double (step_below n)) (double (step_above n))
  between-right f =
      record {
        low-double = is-double (step_below n);
        high-double = is-double (step_above n);
        below =
            rw (worth-lt (pos (step_below n)) (double (step_below n)) (number_itself (pos n)) lower-worth)
            (numbers-lt (step_below n) n (lower-lt n f));
        above =
            rw (lt-worth (pos (step_above n)) (number_itself (pos n)) (double (step_above n)) upper-worth)
            (numbers-lt n (step_above n) (upper-gt n));
        nearest = λ x d l g. nearest f x d
            (rw (worth-lt (pos (step_below n)) (double (step_below n)) x lower-worth) at l)
            (rw (lt-worth (pos (step_above n)) x (double (step_above n)) upper-worth) at g);
      }

size-right : (n : ℕ) → n < 2 ^ 64 → Right (pos n) (of_size n)
size-right n h = go (ℕ_discrete (n % gap n) 0)
  where
    go : Dec (n % gap n ≡ 0) → Right (pos n) (of_size n)
    go (yes e) = rw (size_exact n e) (exact-right n h e)
    go (no f) = rw (size-between n f) (between-right n h f)

pub panel-right : (total : ℤ) → nat_abs total < 2 ^ 64 → Right total (panel_of total)
unfolding panel_of
panel-right (pos n) h = size-right n h
panel-right (negsuc n) h = right-mirrored (pos (suc n)) (of_size (suc n)) (omega arith) (size-right (suc n) h)
