-- The value of a column where a number lies among the rows of a part: there is one only, and it lies between its
-- rows.
use mathlib.Core.Path.{◌≡◌, sym, ap, subst, ◌∙◌}
use mathlib.Core.List.{List, Memᴰ}
use Prim.Native.Nat.{ℕ, ◌*◌, ◌<◌}
use native.Mathlib.Omega.{arith}
use lib.Dec.{leb}
use lib.IntN.{ℤ, pos, ◌*ℤ◌}
use lib.Signed.{≤ℤ_refl}
use borrow.Author.Tests.{leb-true, leb-false}
use Rattle.whole.proofs.Tests.{by-test}
use Rattle.whole.proofs.Nearest.{round_away-nearest, nearest-round_away}
use Rattle.book.specs.Row.{hundredths, Standing}
use Rattle.book.specs.Line.{Way, way_in, on_straight, value_at, Between}
use Rattle.book.specs.Interpolated.{Rising, LiesBetween, LiesAt, NearLine}
use Rattle.book.proofs.Between.{line-between, value_on}
use Rattle.book.proofs.Neighbours.{lower-among, upper-among}
use Rattle.book.proofs.Ways.{between-proper, way-proper}
use Rattle.book.proofs.Walked.{walk-on, walk-within, lies-only}

-- ---- `value_at` is nearest to the line, and nothing else is

module _ (w : Way) (col : ℕ) (some : 0 < w.whole) where
  pub value-near : NearLine w col (value_at w col)
  unfolding on_straight
  value-near = round_away-nearest _ w.whole some

  pub near-value : {v : ℤ} → NearLine w col v → v ≡ value_at w col
  unfolding on_straight
  near-value {v} n = nearest-round_away _ w.whole some v n

-- ---- "It therefore lies between the neighbouring rows, ends included."

at-lower : {v w z : ℤ} → z ≡ v → Between v w z
at-lower {v} {w} e = rw e (record { rising = λ h. (≤ℤ_refl v, h); falling = λ h. (h, ≤ℤ_refl v) })

at-upper : {v w z : ℤ} → z ≡ w → Between v w z
at-upper {v} {w} e = rw e (record { rising = λ h. (h, ≤ℤ_refl w); falling = λ h. (≤ℤ_refl w, h) })

module _ (rows : List Standing) (rises : Rising rows) (x d : ℕ) (some : 0 < d) (lower upper : Standing)
    (b : LiesBetween rows x d lower upper) (col : ℕ) where
  abbrev Lies-between : ℤ → Type 0
  Lies-between v = Between (hundredths lower.row col *ℤ pos 10) (hundredths upper.row col *ℤ pos 10) v

  -- on one of the two rows itself
  on_row : (r : Standing) → Memᴰ r rows → x ≡ r.at * d
      → value_at (way_in rows x d) col ≡ hundredths r.row col *ℤ pos 10
  on_row r m e = ap (λ (w : Way). value_at w col) (walk-on x d some rows rises m e) ∙ value_on r.row col

  walked-between : Lies-between (value_at (way_in rows x d) col)
  walked-between =
      by-test (leb x (lower.at * d))
      (λ e. let h = leb-true x (lower.at * d) e in
      at-lower (on_row lower (lower-among b.next) (omega arith)))
      (λ e. let h = leb-false x (lower.at * d) e in
      by-test (leb (upper.at * d) x)
      (λ f. let g = leb-true (upper.at * d) x f in
      at-upper (on_row upper (upper-among b.next) (omega arith)))
      (λ f. let g = leb-false (upper.at * d) x f in
      let p = between-proper lower upper x d h g in
      rw (walk-within x d some rows rises b.next h g)
      (line-between (hundredths lower.row col) (hundredths upper.row col) _ _ p.within p.some)))

  pub interpolated-between : {w : Way} {v : ℤ} → LiesAt rows x d w → NearLine w col v → Lies-between v
  interpolated-between {w} {v} l n =
      let e : w ≡ way_in rows x d = lies-only x d some rows rises l in
      let some-whole = subst (λ (w : Way). 0 < w.whole) (sym e) (way-proper rows x d).some in
      rw (near-value w col some-whole n, e) walked-between
