-- The newtons missing are those that the remainders come to.
use mathlib.Core.Path.{◌≡◌, refl, sym, ap, ◌∙◌}
use mathlib.Core.Bool.{Bool, true, false, cond}
use mathlib.Core.List.{List, [], ◌∷◌, map}
use Prim.Native.Nat.{ℕ, suc, ◌+◌, ◌*◌, ◌/◌, ◌%◌, ◌≤◌, ◌<◌}
use native.Mathlib.Omega.{arith}
use native.Mathlib.Numerals.{add-one}
use borrow.Author.Tests.{ltb-false}
use lib.Dec.{ltb}
use lib.IntN.{ℤ, pos, ◌+ℤ◌, ◌-ℤ◌, ◌*ℤ◌}
use lib.ListN.{length, drop, drop_of_length-le}
use lib.Seq.{drop-cons}
use Rattle.whole.specs.Lists.{how_many}
use Rattle.whole.specs.Newton.{newton, newtons, remainder}
use Rattle.whole.proofs.Parts.{up, down, order, add-law, sub-lawℤ, up-scale, down-scale, eq-at}
use Rattle.whole.proofs.Newton.{remainder-small, newtons-and-remainder, newtons-unique}
use Rattle.whole.proofs.Counting.{many-few}
use Rattle.sharing.specs.Column.{own_force, added_up, missing}

-- the remainders of a list, summed
unfoldable pub remainders : List ℤ → ℕ
remainders [] = 0
remainders (f ∷ fs) = remainder f + remainders fs

-- what they come to in whole newtons
abbrev pub lacking : List ℤ → ℕ
lacking fs = remainders fs / newton

-- ---- what is missing

pub parts : (z : ℤ) → up z + newton * down (newtons z) ≡ down z + newton * up (newtons z) + remainder z
parts z =
    let q = newtons z in
    omega (
      arith,
      eq-at (newtons-and-remainder z),
      add-law (q *ℤ pos newton) (pos (remainder z)),
      up-scale q newton,
      down-scale q newton,
    )

all-parts : (fs : List ℤ)
    → up (added_up fs) + newton * down (added_up (map newtons fs))
    ≡ down (added_up fs) + newton * up (added_up (map newtons fs)) + remainders fs
unfolding added_up remainders
all-parts [] = omega arith
all-parts (f ∷ fs) =
    omega (
      arith,
      parts f,
      all-parts fs,
      add-law f (added_up fs),
      add-law (newtons f) (added_up (map newtons fs)),
    )

pub total-down : (fs : List ℤ) → newtons (added_up fs) ≡ added_up (map newtons fs) +ℤ pos (lacking fs)
total-down fs =
    let a = added_up (map newtons fs) in
    let q = a +ℤ pos (lacking fs) in
    let r = remainders fs % newton in
    let e : q *ℤ pos newton +ℤ pos r ≡ added_up fs =
    omega (
      arith,
      order,
      all-parts fs,
      add-law a (pos (lacking fs)),
      up-scale q newton,
      down-scale q newton,
      add-law (q *ℤ pos newton) (pos r),
    ) in
    sym (newtons-unique q r (added_up fs) (omega arith) e).0

pub missing-is : (fs : List ℤ) → missing fs ≡ pos (lacking fs)
unfolding missing
missing-is fs =
    ap (λ z. z -ℤ added_up (map newtons fs)) (total-down fs) ∙ less (added_up (map newtons fs)) (lacking fs)
  where
    less : (z : ℤ) (m : ℕ) → (z +ℤ pos m) -ℤ z ≡ pos m
    less z m = omega (arith, order, add-law z (pos m), sub-lawℤ (z +ℤ pos m) z)

-- ---- how many that can be

-- a force that is no whole number of newtons
abbrev pub some_left : ℤ → Bool
some_left f = ltb 0 (remainder f)

pub lacking-few : (fs : List ℤ) → lacking fs ≤ how_many some_left fs
unfolding remainders how_many
lacking-few fs = omega (arith, go fs)
  where
    one : (f : ℤ) (m n : ℕ) (t : Bool) → some_left f ≡ t → m ≤ newton * n → remainder f + m ≤ newton * cond t (suc n) n
    one f m n true e h = omega (arith, remainder-small f)
    one f m n false e h = omega (arith, ltb-false 0 (remainder f) e)

    go : (fs : List ℤ) → remainders fs ≤ newton * how_many some_left fs
    go [] = omega arith
    go (f ∷ fs) = one f (remainders fs) (how_many some_left fs) (some_left f) refl (go fs)

pub lacking-all : (fs : List ℤ) → lacking fs ≤ length fs
lacking-all fs = omega (arith, lacking-few fs, many-few some_left fs)

-- ---- gone through one by one

pub remainders-step : (fs : List ℤ) (i : ℕ) → i < length fs
    → remainders (drop i fs) ≡ remainder (own_force fs i) + remainders (drop (i + 1) fs)
unfolding remainders
remainders-step fs i h = rw (add-one, drop-cons fs i (pos 0))

pub remainders-end : (fs : List ℤ) (i : ℕ) → length fs ≤ i → remainders (drop i fs) ≡ 0
unfolding remainders
remainders-end fs i h = ap remainders (drop_of_length-le fs {i = i} h)
