-- The column adds up to the total rounded down.
use mathlib.Core.Path.{◌≡◌, refl, sym, ap, ap₂, ◌∙◌}
use mathlib.Core.Bool.{Bool, true, false, cond}
use mathlib.Core.List.{List, [], ◌∷◌, map, map-map, Memᴰ}
use Prim.Native.Nat.{ℕ, suc}
use native.Mathlib.Omega.{arith}
use lib.Dec.{ltb}
use lib.IntN.{ℤ, pos, ◌+ℤ◌}
use lib.ListN.{length}
use lib.Signed.{lt_z}
use Rattle.whole.specs.Lists.{numbers, how_many}
use Rattle.whole.specs.Newton.{newtons}
use Rattle.whole.proofs.Parts.{order, add-law}
use Rattle.whole.proofs.Numbers.{places}
use Rattle.sharing.specs.Column.{own_force, added_up, is_ahead, ahead, share_of, column}
use Rattle.sharing.proofs.Remainders.{lacking, total-down, missing-is, lacking-all}
use Rattle.sharing.proofs.Ranks.{winners}
use Rattle.sharing.proofs.Ahead.{strict}

-- an entry: one more, or the force rounded down
abbrev pub one_more_if : Bool → ℤ → ℤ
one_more_if t q = cond t (q +ℤ pos 1) q

-- face i gets one of the missing newtons
abbrev pub gets : List ℤ → ℕ → Bool
gets fs i = ltb (ahead fs i) (lacking fs)

pub share-is : (fs : List ℤ) (i : ℕ) → share_of fs i ≡ one_more_if (gets fs i) (newtons (own_force fs i))
unfolding share_of
share-is fs i = ap (λ m. one_more_if (lt_z (pos (ahead fs i)) m) (newtons (own_force fs i))) (missing-is fs)

-- entries that are each a number or one more add up to the numbers and as many more
pub sum_more : (e a : ℕ → ℤ) (t : ℕ → Bool) (l : List ℕ) → ((i : ℕ) → Memᴰ i l → e i ≡ one_more_if (t i) (a i))
    → added_up (map e l) ≡ added_up (map a l) +ℤ pos (how_many t l)
unfolding added_up how_many
sum_more e a t [] h = refl
sum_more e a t (i ∷ l) h =
    ap₂ ◌+ℤ◌ (h i (Memᴰ.head refl)) (sum_more e a t l (λ j m. h j (Memᴰ.tail m)))
    ∙ one (a i) (added_up (map a l)) (how_many t l) (t i)
  where
    one : (x y : ℤ) (n : ℕ) (b : Bool) → one_more_if b x +ℤ (y +ℤ pos n) ≡ (x +ℤ y) +ℤ pos (cond b (suc n) n)
    one x y n true =
        omega (
          arith,
          order,
          add-law x (pos 1),
          add-law y (pos n),
          add-law (x +ℤ pos 1) (y +ℤ pos n),
          add-law x y,
          add-law (x +ℤ y) (pos (suc n)),
        )
    one x y n false =
        omega (
          arith,
          order,
          add-law y (pos n),
          add-law x (y +ℤ pos n),
          add-law x y,
          add-law (x +ℤ y) (pos n),
        )

-- the forces rounded down, by place
pub all-down : (fs : List ℤ) → map (λ i. newtons (own_force fs i)) (numbers (length fs) 0) ≡ map newtons fs
all-down fs = sym (map-map newtons (own_force fs) (numbers (length fs) 0)) ∙ ap (map newtons) (sym (places (pos 0) fs))

-- as many get one as are missing
pub as_many : (fs : List ℤ) → how_many (gets fs) (numbers (length fs) 0) ≡ lacking fs
unfolding ahead
as_many fs = winners (is_ahead fs) (strict fs) (length fs) 0 (lacking fs) (lacking-all fs)

pub adds-up : (fs : List ℤ) → added_up (column fs) ≡ newtons (added_up fs)
unfolding column
adds-up fs =
    sum_more (share_of fs) (λ i. newtons (own_force fs i)) (gets fs) (numbers (length fs) 0) (λ i m. share-is fs i)
    ∙ ap₂ (λ (l : List ℤ) (m : ℕ). added_up l +ℤ pos m) (all-down fs) (as_many fs)
    ∙ sym (total-down fs)
