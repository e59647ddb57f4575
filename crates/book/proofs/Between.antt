-- Interpolation lies between its rows, ends included: for every table at once.
use mathlib.Core.Path.{◌≡◌, refl, ap, subst}
use Prim.Native.Nat.{ℕ, ◌+◌, ◌-◌, ◌*◌, ◌≤◌, ◌<◌}
use native.Mathlib.Nat.{mul-le-mul_right}
use native.Mathlib.Omega.{arith}
use lib.Dec.{lit<, lit≤}
use lib.IntN.{ℤ, pos, neg_ℤ, nat_abs, ◌+ℤ◌, ◌-ℤ◌, ◌*ℤ◌}
use lib.Signed.{◌≤ℤ◌, ≤ℤ_refl}
use Rattle.whole.proofs.Parts.{add-law, sub-lawℤ, up_neg, down-neg, up-scale, down-scale, le-by, le-at, eq-by}
use Rattle.whole.proofs.Order.{≤ℤ-antisym}
use Rattle.whole.proofs.Size.{size_low, size-high, size-between}
use Rattle.whole.proofs.Rounding.{round_away-mono, round_away-exact}
use Rattle.book.specs.Row.{Row, hundredths}
use Rattle.book.specs.Line.{on, along_line, on_straight, value_at, Between}

-- a mean of two numbers with weights p and q lies above what is below both, and below what is above both
module _ (p q : ℕ) (v w m : ℤ) where
  mean-above : m ≤ℤ v → m ≤ℤ w → ((m *ℤ pos 10) *ℤ pos (p + q)) ≤ℤ ((v *ℤ pos p +ℤ w *ℤ pos q) *ℤ pos 10)
  mean-above h k =
      let sum = simp (up-scale, down-scale) at (add-law (v *ℤ pos p) (w *ℤ pos q)) in
      let left = mul-le-mul_right p (le-at m v h) in
      let right = mul-le-mul_right q (le-at m w k) in
      le-by _ _ (simp (up-scale, down-scale) (omega (arith, sum, left, right)))

  mean-below : v ≤ℤ m → w ≤ℤ m → ((v *ℤ pos p +ℤ w *ℤ pos q) *ℤ pos 10) ≤ℤ ((m *ℤ pos 10) *ℤ pos (p + q))
  mean-below h k =
      let sum = simp (up-scale, down-scale) at (add-law (v *ℤ pos p) (w *ℤ pos q)) in
      let left = mul-le-mul_right p (le-at v m h) in
      let right = mul-le-mul_right q (le-at w m k) in
      le-by _ _ (simp (up-scale, down-scale) (omega (arith, sum, left, right)))

tenfold : (k : ℕ) → neg_ℤ (pos k) *ℤ pos 10 ≡ neg_ℤ (pos (k * 10))
tenfold k =
    eq-by _ _
    (simp (up-scale, down-scale)
    (omega (arith, up_neg (pos k), down-neg (pos k), up_neg (pos (k * 10)), down-neg (pos (k * 10)))))

-- part/whole of the way is such a mean
weights : (v w : ℤ) (p q : ℕ) → v *ℤ pos (p + q) +ℤ (w -ℤ v) *ℤ pos q ≡ v *ℤ pos p +ℤ w *ℤ pos q
weights v w p q =
    let along = simp (up-scale, down-scale) at (add-law (v *ℤ pos (p + q)) ((w -ℤ v) *ℤ pos q)) in
    let mean = simp (up-scale, down-scale) at (add-law (v *ℤ pos p) (w *ℤ pos q)) in
    let gap = ap (λ (n : ℕ). n * q) (sub-lawℤ w v) in
    eq-by _ _ (omega (arith, along, mean, gap))

module _ (v w : ℤ) (part whole : ℕ) (within : part ≤ whole) (some : 0 < whole) where
  both : (whole - part) + part ≡ whole
  both = omega arith

  abbrev pub mean : ℤ
  mean = (v *ℤ pos (whole - part) +ℤ w *ℤ pos part) *ℤ pos 10

  pub weighted : along_line v w part whole ≡ mean
  weighted = ap (λ (z : ℤ). z *ℤ pos 10) (rw both at (weights v w (whole - part) part))

  line-above : (m : ℤ) → m ≤ℤ v → m ≤ℤ w → (m *ℤ pos 10) ≤ℤ on_straight v w part whole
  unfolding on_straight
  line-above m h k =
      subst (λ (z : ℤ). z ≤ℤ on_straight v w part whole) (round_away-exact (m *ℤ pos 10) whole some)
      (round_away-mono whole _ _
      (rw weighted
      (subst (λ (d : ℕ). ((m *ℤ pos 10) *ℤ pos d) ≤ℤ mean) both (mean-above (whole - part) part v w m h k))))

  line-below : (m : ℤ) → v ≤ℤ m → w ≤ℤ m → on_straight v w part whole ≤ℤ (m *ℤ pos 10)
  unfolding on_straight
  line-below m h k =
      subst (λ (z : ℤ). on_straight v w part whole ≤ℤ z) (round_away-exact (m *ℤ pos 10) whole some)
      (round_away-mono whole _ _
      (rw weighted
      (subst (λ (d : ℕ). mean ≤ℤ ((m *ℤ pos 10) *ℤ pos d)) both (mean-below (whole - part) part v w m h k))))

  -- the one fact over all tables: the value lies between its rows' hundredths, as thousandths
  pub line-between : Between (v *ℤ pos 10) (w *ℤ pos 10) (on_straight v w part whole)
  line-between =
      record {
        rising = λ h. (line-above v (≤ℤ_refl v) (order-down v w h), line-below w (order-down v w h) (≤ℤ_refl w));
        falling = λ h. (line-above w (order-down w v h) (≤ℤ_refl w), line-below v (≤ℤ_refl v) (order-down w v h));
      }
    where
      order-down : (x y : ℤ) → (x *ℤ pos 10) ≤ℤ (y *ℤ pos 10) → x ≤ℤ y
      order-down x y h = le-by x y (omega (arith, simp (up-scale, down-scale) at (le-at _ _ h)))

  -- on a row itself it is the row's
  pub line_on : v ≡ w → on_straight v w part whole ≡ v *ℤ pos 10
  line_on e =
      ≤ℤ-antisym (line-below v (≤ℤ_refl v) (subst (λ (z : ℤ). z ≤ℤ v) e (≤ℤ_refl v)))
      (line-above v (≤ℤ_refl v) (subst (λ (z : ℤ). v ≤ℤ z) e (≤ℤ_refl v)))

  -- so it is ten times as large as they are, at most
  pub line_small : (k : ℕ) → nat_abs v ≤ k → nat_abs w ≤ k → nat_abs (on_straight v w part whole) ≤ k * 10
  line_small k h g =
      size-between (on_straight v w part whole) (k * 10)
      (subst (λ (z : ℤ). z ≤ℤ on_straight v w part whole) (tenfold k)
      (line-above (neg_ℤ (pos k)) (size_low v k h) (size_low w k g)))
      (line-below (pos k) (size-high v k h) (size-high w k g))

pub value_on : (r : Row) (col : ℕ) → value_at (on r) col ≡ hundredths r col *ℤ pos 10
value_on r col = let c = hundredths r col in line_on c c 0 1 (lit≤ tt) (lit< tt) refl
