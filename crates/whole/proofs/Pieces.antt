-- Lists put together and cut: what holds of each of them, what each of them becomes, and the first of them.
use mathlib.Core.Path.{◌≡◌, refl, ap}
use mathlib.Core.List.{List, [], ◌∷◌, ◌++◌, map}
use Prim.Native.Nat.{ℕ, zero, suc}
use lib.ListN.{length, take, drop}
use Rattle.whole.specs.Lists.{first_of, Every}

module _ {A : Type 0} (P : A → Type 0) where
  pub every_append : (l m : List A) → Every P l → Every P m → Every P (l ++ m)
  every_append [] m h k = k
  every_append (x ∷ l) m h k = (h.0, every_append l m h.1 k)

  pub every_first : (n : ℕ) (l : List A) → Every P l → Every P (take n l)
  every_first zero l h = tt
  every_first (suc n) [] h = tt
  every_first (suc n) (x ∷ l) h = (h.0, every_first n l h.1)

  pub every_rest : (n : ℕ) (l : List A) → Every P l → Every P (drop n l)
  every_rest zero l h = h
  every_rest (suc n) [] h = tt
  every_rest (suc n) (x ∷ l) h = every_rest n l h.1

pub map-append : {A C : Type 0} (f : A → C) (l m : List A) → map f (l ++ m) ≡ map f l ++ map f m
map-append f [] m = refl
map-append f (x ∷ l) m = ap (λ k. f x ∷ k) (map-append f l m)

pub first_of-front : {A : Type 0} (d : A) (l m : List A) → first_of d (length l) (l ++ m) ≡ l
unfolding first_of
first_of-front d [] m = refl
first_of-front d (x ∷ l) m = ap (λ k. x ∷ k) (first_of-front d l m)
