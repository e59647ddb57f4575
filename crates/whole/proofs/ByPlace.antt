-- The members of a list, by their place in it.
use mathlib.Core.Path.{◌≡◌, refl, sym}
use mathlib.Core.Logic.{⊎_elim}
use mathlib.Core.List.Memᴰ
use mathlib.Core.List.{List, [], ◌∷◌, Memᴰ}
use Prim.Native.Nat.{ℕ, zero, suc, ◌<◌}
use native.Mathlib.Omega.{arith}
use lib.ListN.{length, get_or}

-- what stands at a place is a member, and a member stands at a place
pub get_d-member : {X : Type 0} (l : List X) (i : ℕ) (d : X) → i < length l → Memᴰ (get_or l i d) l
get_d-member [] i d h = absurd (omega arith)
get_d-member (x ∷ xs) zero d h = Memᴰ.head refl
get_d-member (x ∷ xs) (suc i) d h = Memᴰ.tail (get_d-member xs i d (omega arith))

pub member-get_d : {X : Type 0} {x : X} (l : List X) (d : X) → Memᴰ x l
    → (i : ℕ) × (i < length l) × (get_or l i d ≡ x)
member-get_d [] d m = absurd (Memᴰ.not-nil m)
member-get_d {X} {x} (y ∷ ys) d m =
    ⊎_elim (λ e. (0, omega arith, sym e)) (λ n. later (member-get_d ys d n)) (Memᴰ.cases_cons m)
  where
    later : (i : ℕ) × (i < length ys) × (get_or ys i d ≡ x) → (i : ℕ) × (i < length (y ∷ ys))
        × (get_or (y ∷ ys) i d ≡ x)
    later r = let h = r.1 in (suc r.0, omega arith, r.2)

-- what holds of every member, and of what stands past the end, holds at every place
pub get_d-all : {X : Type 0} (P : X → Type 0) (l : List X) (d : X) → P d → ((x : X) → Memᴰ x l → P x) → (i : ℕ)
    → P (get_or l i d)
get_d-all P [] d p h i = p
get_d-all P (x ∷ xs) d p h zero = h x (Memᴰ.head refl)
get_d-all P (x ∷ xs) d p h (suc i) = get_d-all P xs d p (λ y m. h y (Memᴰ.tail m)) i
