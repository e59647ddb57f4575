-- Interpolation with the rows' hundredths counted from -k: a natural number, which rounds as the value does where no
-- half comes up.
use mathlib.Core.Path.{◌≡◌, ap, ◌∙◌}
use mathlib.Core.Logic.{⊎_elim}
use Prim.Native.Nat.{ℕ, ◌+◌, ◌-◌, ◌*◌, ◌≤◌, ◌<◌}
use native.Mathlib.Omega.{arith}
use lib.IntN.{ℤ, pos, nat_abs, ◌+ℤ◌, ◌-ℤ◌, ◌*ℤ◌}
use lib.Signed.{◌≤ℤ◌}
use Rattle.whole.specs.Round.{half_up}
use Rattle.whole.proofs.Parts.{up, down, add-law, sub-lawℤ, up-scale, down-scale, eq-by, le-by, nat_abs-is}
use Rattle.whole.proofs.Parts.{one-is-zero}
use Rattle.whole.proofs.NoHalf.{round_away-moved}
use Rattle.book.specs.Line.{along_line, on_straight}
use Rattle.book.specs.NoHalf.{NoHalf}
use Rattle.book.proofs.Between.{weighted}

-- counted from -k a number of size k at most is a natural, and 2 k at most
raised_is : (v : ℤ) (k : ℕ) → nat_abs v ≤ k → nat_abs (v +ℤ pos k) + down v ≡ up v + k
raised_is v k h =
    let u = v +ℤ pos k in
    ⊎_elim (λ e. omega (arith, nat_abs-is v, nat_abs-is u, add-law v (pos k)))
    (λ e. omega (arith, nat_abs-is v, nat_abs-is u, add-law v (pos k))) (one-is-zero u)

pub raised-natural : (v : ℤ) (k : ℕ) → nat_abs v ≤ k → pos 0 ≤ℤ (v +ℤ pos k)
raised-natural v k h = le-by _ _ (omega (arith, nat_abs-is v, add-law v (pos k)))

pub raised-most : (v : ℤ) (k : ℕ) → nat_abs v ≤ k → nat_abs (v +ℤ pos k) ≤ 2 * k
raised-most v k h = omega (arith, raised_is v k h, nat_abs-is v)

-- and counted from 0 again
pub lowered-most : (n k : ℕ) → nat_abs (pos n -ℤ pos k) ≤ k → n ≤ 2 * k
lowered-most n k h = omega (arith, sub-lawℤ (pos n) (pos k), nat_abs-is (pos n -ℤ pos k))

-- part/whole of the way, so counted: in thousandths, and over whole
abbrev pub raised_line : ℕ → ℤ → ℤ → ℕ → ℕ → ℕ
raised_line k v w part whole = (nat_abs (v +ℤ pos k) * (whole - part) + nat_abs (w +ℤ pos k) * part) * 10

module _ (k : ℕ) (v w : ℤ) (v-small : nat_abs v ≤ k) (w-small : nat_abs w ≤ k) (part whole : ℕ) (within : part ≤ whole)
    (some : 0 < whole) where
  moved : along_line v w part whole +ℤ pos (k * 10 * whole) ≡ pos (raised_line k v w part whole)
  moved =
      let rest = whole - part in
      let both : rest + part ≡ whole = omega arith in
      let sum = v *ℤ pos rest +ℤ w *ℤ pos part in
      let a = ap (λ (n : ℕ). n * rest) (raised_is v k v-small) in
      let b = ap (λ (n : ℕ). n * part) (raised_is w k w-small) in
      let c = ap (λ (n : ℕ). k * n) both in
      ap (λ (z : ℤ). z +ℤ pos (k * 10 * whole)) (weighted v w part whole within some)
      ∙ eq-by _ _
      (omega (
        arith,
        add-law (sum *ℤ pos 10) (pos (k * 10 * whole)),
        up-scale sum 10,
        down-scale sum 10,
        add-law (v *ℤ pos rest) (w *ℤ pos part),
        up-scale v rest,
        down-scale v rest,
        up-scale w part,
        down-scale w part,
      ))

  pub raised-rounds : NoHalf v w part whole
      → on_straight v w part whole ≡ pos (half_up (raised_line k v w part whole) whole) -ℤ pos (k * 10)
  unfolding on_straight
  raised-rounds none =
      round_away-moved (along_line v w part whole) whole some (k * 10) (raised_line k v w part whole) none moved
