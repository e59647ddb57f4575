-- How large a pair is: the size of its units by that of its newtons, and what `within_newtons` says.
use mathlib.Core.Path.{◌≡◌, refl, ◌∙◌}
use mathlib.Core.Logic.{⊎_elim}
use mathlib.Core.Bool.{true, false}
use Prim.Native.Nat.{ℕ, suc, ◌+◌, ◌*◌, ◌≤◌, ◌<◌}
use native.Mathlib.Omega.{arith}
use borrow.Author.Tests.{lt-ltb, le-ltb, ltb-true, le-leb, leb-true}
use lib.Dec.{ltb, leb}
use lib.IntN.{ℤ, pos, negsuc, nat_abs, ◌*ℤ◌}
use lib.Signed.{◌≤ℤ◌, ◌<ℤ◌}
use Rattle.whole.specs.Newton.{newton}
use Rattle.whole.proofs.Parts.{order, add-law, up-scale, down-scale, nat_abs-is, one-is-zero}
use Rattle.whole.proofs.Newton.{remainder-small}
use Rattle.whole.proofs.Tests.{and-true, same_flag}
use Rattle.pair.specs.declared.Pair.{Pair}
use Rattle.pair.specs.Total.{pair_of, units, proper, within_newtons, most_in_units, as_units}
use Rattle.pair.proofs.Units.{worth, units-pair_of}

-- below zero the remainder goes towards it
pub size_below : (m r : ℕ) → r < newton → nat_abs (worth (negsuc m) r) + r ≡ suc m * newton
size_below m r h =
    let a = add-law (negsuc m *ℤ pos newton) (pos r) in
    let u = up-scale (negsuc m) newton in
    let d = down-scale (negsuc m) newton in
    let z = nat_abs-is (worth (negsuc m) r) in
    ⊎_elim (λ e. omega (arith, a, u, d, z)) (λ e. omega (arith, a, u, d, z)) (one-is-zero (worth (negsuc m) r))

-- ---- within so many newtons

pub record Sized (n : ℕ) (p : Pair) : Type 0 where
  pub proper : p.remainder < newton
  pub small : nat_abs (units p) ≤ n * newton

pub within-is : (n : ℕ) (p : Pair) → within_newtons n p ≡ true → Sized n p
unfolding within_newtons
within-is n p e =
    let both = and-true (proper p) (leb (nat_abs (units p)) (n * newton)) e in
    record { proper = ltb-true p.remainder newton both.0; small = leb-true _ _ both.1 }

pub is_within : (n : ℕ) (p : Pair) → Sized n p → within_newtons n p ≡ true
unfolding within_newtons
is_within n p h = rw (lt-ltb p.remainder newton h.proper) (le-leb _ _ h.small)

-- a total of this size, and its pair
pub within-pair_of : (n : ℕ) (z : ℤ) → nat_abs z ≤ n * newton → within_newtons n (pair_of z) ≡ true
within-pair_of n z h =
    is_within n (pair_of z)
    (record { proper = remainder-small z; small = rw (units-pair_of z) h })

pub within-small : (n : ℕ) (p : Pair) → within_newtons n p ≡ true → nat_abs (units p) ≤ n * newton
within-small n p e = (within-is n p e).small

pub within_more : (m n : ℕ) (p : Pair) → m ≤ n → within_newtons m p ≡ true → within_newtons n p ≡ true
within_more m n p h e =
    let w = within-is m p e in
    is_within n p (record { proper = w.proper; small = omega (arith, w.small) })

-- and its units, where they fit 64 bits
pub as_units-within : (p : Pair) → within_newtons most_in_units p ≡ true → as_units p ≡ units p
unfolding as_units
as_units-within p e = rw e

pub as_units-pair_of : (z : ℤ) → nat_abs z ≤ most_in_units * newton → as_units (pair_of z) ≡ z
as_units-pair_of z h = as_units-within (pair_of z) (within-pair_of most_in_units z h) ∙ units-pair_of z

-- its newtons are no more
newtons-within : (n : ℕ) (q : ℤ) (r : ℕ) → r < newton → nat_abs (worth q r) ≤ n * newton → nat_abs q ≤ n
newtons-within n (pos m) r h k = omega arith
newtons-within n (negsuc m) r h k = omega (arith, size_below m r h)

pub newtons-small : (n : ℕ) (p : Pair) → Sized n p → nat_abs p.newtons ≤ n
newtons-small n p w = newtons-within n p.newtons p.remainder w.proper w.small

-- ---- the test for it, as the code makes it

pub not-proper : (n : ℕ) (p : Pair) → newton ≤ p.remainder → false ≡ within_newtons n p
unfolding within_newtons
not-proper n p h = rw (le-ltb p.remainder newton h)

within-below : (n : ℕ) (q : ℤ) (r : ℕ) → r < newton → q <ℤ pos 0 → nat_abs q ≤ n → nat_abs (worth q r) ≤ n * newton
within-below n (pos m) r h l k = absurd (omega (arith, order))
within-below n (negsuc m) r h l k = omega (arith, size_below m r h)

pub below-zero : (n : ℕ) (p : Pair) → p.remainder < newton → p.newtons <ℤ pos 0
    → leb (nat_abs p.newtons) n ≡ within_newtons n p
below-zero n p h l =
    same_flag _ _
    (λ e.
    is_within n p
    (record { proper = h; small = within-below n p.newtons p.remainder h l (leb-true _ _ e) }))
    (λ e. le-leb _ _ (newtons-small n p (within-is n p e)))

-- from 0 on, with nothing left or with something
size_above : (q : ℤ) (r : ℕ) → pos 0 ≤ℤ q → nat_abs q * newton + r ≡ nat_abs (worth q r)
size_above (pos m) r h = refl
size_above (negsuc m) r h = absurd h.le

module _ (n : ℕ) (p : Pair) (l : pos 0 ≤ℤ p.newtons) where
  size : nat_abs p.newtons * newton + p.remainder ≡ nat_abs (units p)
  size = size_above p.newtons p.remainder l

  pub nothing_left : p.remainder ≡ 0 → leb (nat_abs p.newtons) n ≡ within_newtons n p
  nothing_left e =
      same_flag _ _
      (λ t.
      is_within n p
      (record { proper = omega arith; small = omega (arith, size, leb-true (nat_abs p.newtons) n t) }))
      (λ t. le-leb _ _ (newtons-small n p (within-is n p t)))

  pub something-left : p.remainder < newton → 0 < p.remainder → ltb (nat_abs p.newtons) n ≡ within_newtons n p
  something-left h k =
      same_flag _ _
      (λ t. is_within n p (record { proper = h; small = omega (arith, size, ltb-true (nat_abs p.newtons) n t) }))
      (λ t. lt-ltb (nat_abs p.newtons) n (omega (arith, size, (within-is n p t).small)))
