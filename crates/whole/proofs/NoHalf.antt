-- Where no half comes up, rounding needs no sign: a number is moved up among the naturals, rounded there by one
-- division and moved back.
use mathlib.Core.Path.{◌≡◌, sym, ap}
use Prim.Native.Nat.{ℕ, ◌+◌, ◌-◌, ◌*◌, ◌<◌}
use native.Mathlib.Omega.{arith}
use lib.Dec.{leb}
use borrow.Author.Tests.{leb-true, leb-false}
use lib.IntN.{ℤ, pos, nat_abs, ◌+ℤ◌, ◌-ℤ◌, ◌*ℤ◌}
use Rattle.whole.specs.Round.{half_up, round_away, left_over, Half}
use Rattle.whole.proofs.Parts.{up, down, add-law, sub-lawℤ, up-scale, down-scale, eq-by, eq-at}
use Rattle.whole.proofs.Rounding.{down-unique}
use Rattle.whole.proofs.Nearest.{off, half-near, nearest-round_away}
use Rattle.whole.proofs.Tests.{by-test}

module _ (z : ℤ) (d : ℕ) (some : 0 < d) where
  -- with a quotient q and less than d left, q and that are what rounding down gives
  left_is : (q : ℤ) (r : ℕ) → r < d → up q * d + r + down z ≡ down q * d + up z → r ≡ left_over z d
  left_is q r h e =
      (down-unique q r z d h
      (eq-by _ _ (omega (arith, add-law (q *ℤ pos d) (pos r), up-scale q d, down-scale q d)))).1

  -- off by just a half from a whole number is halfway between two
  pub half-off : (r : ℤ) → 2 * nat_abs (r *ℤ pos d -ℤ z) ≡ d → Half z d
  half-off r e =
      let o = off z d r in
      let above = up r * d + down z in
      let below = down r * d + up z in
      by-test (leb above below)
      (λ t. let h = leb-true above below t in
      omega (arith, left_is r (below - above) (omega arith) (omega arith)))
      (λ t. let h = leb-false above below t in
      let q = r -ℤ pos 1 in
      let s = ap (λ (n : ℕ). n * d) (sub-lawℤ r (pos 1)) in
      omega (arith, left_is q (d - (above - below)) (omega arith) (omega arith)))

  -- moved up by k whole numbers, z is the natural n
  pub round_away-moved : (k n : ℕ) → (Half z d → ⊥) → z +ℤ pos (k * d) ≡ pos n
      → round_away z d ≡ pos (half_up n d) -ℤ pos k
  round_away-moved k n none e =
      let r = pos (half_up n d) -ℤ pos k in
      let m = ap (λ (n : ℕ). n * d) (sub-lawℤ (pos (half_up n d)) (pos k)) in
      let a = add-law z (pos (k * d)) in
      let i = eq-at e in
      let h = half-near n d some in
      let o = off z d r in
      sym
      (nearest-round_away z d some r (record { near = omega arith; away = λ f. absurd (none (half-off r f)) }))
