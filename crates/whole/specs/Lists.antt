-- Lists: the first so many of one, one without one of its entries, what holds of each of one, how many of one have
-- something, lists put one after the other; and numbers in order.
use Rattle.std.specs.Prelude.{ℕ, zero, suc, ◌-◌, Bool, cond, List, [], ◌∷◌, ◌++◌, ltb, take, drop}

-- the first n of a list, and d where it has fewer
unfoldable pub first_of : {A : Type 0} → A → ℕ → List A → List A
first_of d zero l = []
first_of d (suc n) [] = d ∷ first_of d n []
first_of d (suc n) (x ∷ l) = x ∷ first_of d n l

-- a list without its entry k, counted from 1: later ones move up, and the number of each goes down by one
abbrev pub take_out : {A : Type 0} → ℕ → List A → List A
take_out k l = take (k - 1) l ++ drop k l

abbrev pub renumbered : ℕ → ℕ → ℕ
renumbered k n = cond (ltb k n) (n - 1) n

-- P holds of each of a list
abbrev pub Every : {A : Type 0} → (A → Type 0) → List A → Type 0
Every P [] = Unit
Every P (x ∷ l) = P x × Every P l

-- n numbers from k on
unfoldable pub numbers : ℕ → ℕ → List ℕ
numbers zero k = []
numbers (suc n) k = k ∷ numbers n (suc k)

-- how many of a list have it
unfoldable pub how_many : {A : Type 0} → (A → Bool) → List A → ℕ
how_many has [] = 0
how_many has (x ∷ l) = cond (has x) (suc (how_many has l)) (how_many has l)

-- lists put one after the other
abbrev pub joined : {A : Type 0} → List (List A) → List A
joined [] = []
joined (l ∷ ls) = l ++ joined ls
