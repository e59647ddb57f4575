-- Pairs of totals stand in the order of their totals: newtons first, and then the remainders.
use mathlib.Core.Path.{◌≡◌, sym, ap, ◌∙◌}
use mathlib.Core.Bool.{true, false}
use Prim.Native.Nat.{ℕ, ◌<◌}
use native.Mathlib.Omega.{arith}
use borrow.Author.Tests.{ltb-true}
use lib.Dec.{ltb}
use lib.IntN.{ℤ, pos, ◌*ℤ◌, +ℤ_comm}
use lib.Signed.{lt_z, ◌<ℤ◌}
use Rattle.whole.specs.Newton.{newton}
use Rattle.whole.proofs.Parts.{order, add-law, up-scale, down-scale, lt_by}
use Rattle.whole.proofs.Order.{lt-true, lt-false, true-lt, false-lt, <ℤ-≤ℤ, ≤ℤ-antisym, lt_z-+ℤ}
use Rattle.whole.proofs.Tests.{by-test}
use Rattle.pair.specs.declared.Pair.{Pair}
use Rattle.pair.specs.Total.{pair_of, units, proper, lesser}
use Rattle.pair.proofs.Units.{worth, units-pair_of, proper-pair_of}

-- fewer newtons are less, whatever remains
fewer : (m n : ℤ) (r s : ℕ) → r < newton → m <ℤ n → worth m r <ℤ worth n s
fewer m n r s h l =
    lt_by _ _
    (omega (
      arith,
      order,
      add-law (m *ℤ pos newton) (pos r),
      add-law (n *ℤ pos newton) (pos s),
      up-scale m newton,
      down-scale m newton,
      up-scale n newton,
      down-scale n newton,
    ))

-- as many are ordered by what remains
as_many : (m n : ℤ) (r s : ℕ) → m ≡ n → ltb r s ≡ lt_z (worth m r) (worth n s)
as_many m n r s e =
    let x = m *ℤ pos newton in
    sym (lt_z-+ℤ (pos r) (pos s) x)
    ∙ (λ i. lt_z (+ℤ_comm (pos r) x i) (+ℤ_comm (pos s) x i))
    ∙ ap (λ (z : ℤ). lt_z (worth m r) (worth z s)) e

-- the order by its two tests
module _ (p q : Pair) where
  by-fewer : lt_z p.newtons q.newtons ≡ true → true ≡ lesser p q
  unfolding lesser
  by-fewer e = rw e

  by-more : lt_z p.newtons q.newtons ≡ false → lt_z q.newtons p.newtons ≡ true → false ≡ lesser p q
  unfolding lesser
  by-more e f = rw (e, f)

  by-remainder : lt_z p.newtons q.newtons ≡ false → lt_z q.newtons p.newtons ≡ false
      → ltb p.remainder q.remainder ≡ lesser p q
  unfolding lesser
  by-remainder e f = rw (e, f)

pub lesser-units : (p q : Pair) → proper p ≡ true → proper q ≡ true → lesser p q ≡ lt_z (units p) (units q)
lesser-units p q h k =
    let m = p.newtons in
    let n = q.newtons in
    let r = ltb-true p.remainder newton h in
    let s = ltb-true q.remainder newton k in
    by-test (lt_z m n)
    (λ e. sym (by-fewer p q e) ∙ sym (true-lt (fewer m n p.remainder q.remainder r (lt-true m n e))))
    (λ e.
    by-test (lt_z n m)
    (λ f.
    sym (by-more p q e f) ∙ sym (false-lt (<ℤ-≤ℤ (fewer n m q.remainder p.remainder s (lt-true n m f)))))
    (λ f.
    sym (by-remainder p q e f)
    ∙ as_many m n p.remainder q.remainder (≤ℤ-antisym (lt-false n m f) (lt-false m n e))))

pub lesser-pair_of : (a b : ℤ) → lesser (pair_of a) (pair_of b) ≡ lt_z a b
lesser-pair_of a b =
    lesser-units (pair_of a) (pair_of b) (proper-pair_of a) (proper-pair_of b)
    ∙ (λ i. lt_z (units-pair_of a i) (units-pair_of b i))
