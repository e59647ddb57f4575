-- The rows of a part that rises: where a row or two neighbours stand from its first row.
use mathlib.Core.Path.{refl}
use mathlib.Core.Logic.{⊎_elim}
use mathlib.Core.List.Memᴰ
use mathlib.Core.List.{List, [], ◌∷◌, Memᴰ}
use Prim.Native.Nat.{◌≤◌, ◌<◌}
use native.Mathlib.Omega.{arith}
use Rattle.book.specs.Row.{Standing}
use Rattle.book.specs.Interpolated.{Neighbours, first, later, Rising}

-- of neighbours the upper stands at the larger number
pub neighbours-rise : {lower upper : Standing} (rows : List Standing) → Rising rows → Neighbours rows lower upper
    → lower.at < upper.at
neighbours-rise (r ∷ s ∷ rows) h first = h.0
neighbours-rise (r ∷ s ∷ rows) h (later n) = neighbours-rise (s ∷ rows) h.1 n
neighbours-rise {lower = lower} {upper = upper} [] h n = elim n [ ]
neighbours-rise {lower = lower} {upper = upper} (r ∷ []) h n = elim n [ ]

-- none stands before the first row
pub neighbours-from : {lower upper : Standing} (r : Standing) (rows : List Standing) → Rising (r ∷ rows)
    → Neighbours (r ∷ rows) lower upper → r.at ≤ lower.at
neighbours-from r (s ∷ rows) h first = omega arith
neighbours-from r (s ∷ rows) h (later n) = let l = neighbours-from s rows h.1 n in omega arith
neighbours-from {lower = lower} {upper = upper} r [] h n = elim n [ ]

pub row_from : {t : Standing} (r : Standing) (rows : List Standing) → Rising (r ∷ rows) → Memᴰ t (r ∷ rows)
    → r.at ≤ t.at
row_from r [] h m = rw (Memᴰ.eq_of_singleton m) (omega arith)
row_from r (s ∷ rows) h m =
    ⊎_elim (λ e. rw e (omega arith)) (λ n. let l = row_from s rows h.1 n in omega arith) (Memᴰ.cases_cons m)

-- neighbours are rows of the part
pub lower-among : {lower upper : Standing} {rows : List Standing} → Neighbours rows lower upper → Memᴰ lower rows
lower-among first = Memᴰ.head refl
lower-among (later n) = Memᴰ.tail (lower-among n)

pub upper-among : {lower upper : Standing} {rows : List Standing} → Neighbours rows lower upper → Memᴰ upper rows
upper-among first = Memᴰ.tail (Memᴰ.head refl)
upper-among (later n) = Memᴰ.tail (upper-among n)
