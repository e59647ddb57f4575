-- A total and its pair are each other's.
use mathlib.Core.Path.{◌≡◌, refl, sym, ap₂}
use mathlib.Core.Bool.{true}
use Prim.Native.Nat.{ℕ, ◌<◌}
use native.Mathlib.Omega.{arith}
use borrow.Author.Tests.{lt-ltb, ltb-true}
use lib.IntN.{ℤ, pos, ◌+ℤ◌, ◌*ℤ◌}
use Rattle.whole.specs.Newton.{newton, remainder}
use Rattle.whole.proofs.Newton.{remainder-small, newtons-and-remainder, newtons-unique}
use Rattle.pair.specs.declared.Pair.{Pair}
use Rattle.pair.specs.Total.{pair_of, units, no_pair, proper}

pub units-pair_of : (z : ℤ) → units (pair_of z) ≡ z
units-pair_of z = newtons-and-remainder z

pub proper-pair_of : (z : ℤ) → proper (pair_of z) ≡ true
proper-pair_of z = lt-ltb (remainder z) newton (remainder-small z)

abbrev pub pair : ℤ → ℕ → Pair
pair q r = record { newtons = q; remainder = r }

-- the units of so many newtons and a rest
abbrev pub worth : ℤ → ℕ → ℤ
worth q r = q *ℤ pos newton +ℤ pos r

-- newtons with a remainder are the pair of the total that they stand for
pub pair_is : (q : ℤ) (r : ℕ) → r < newton → pair q r ≡ pair_of (worth q r)
pair_is q r h =
    let u = newtons-unique q r (worth q r) h refl in
    ap₂ pair u.0 u.1

pub pair_of-units : (p : Pair) → proper p ≡ true → pair_of (units p) ≡ p
pair_of-units p h = sym (pair_is p.newtons p.remainder (ltb-true p.remainder newton h))

pub no-pair : no_pair ≡ pair_of (pos 0)
no-pair = pair_is (pos 0) 0 (omega arith)
