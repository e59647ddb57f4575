-- A rule of a table, proved at every entry by one test that antt computes.
use mathlib.Core.Path.{◌≡◌, refl, sym, subst}
use mathlib.Core.Bool.{Bool, true, false}
use mathlib.Core.List.{List, [], ◌∷◌}
use Prim.Native.Nat.{ℕ, zero, suc, ◌<◌}
use native.Mathlib.Omega.{arith}
use lib.Dec.{T, eqb}
use borrow.Author.Tests.{eqb-true, eqb-false}
use lib.ListN.{get_or}

abbrev pub both : Bool → Bool → Bool
both true b = b
both false b = false

pub both_left : (a b : Bool) → T (both a b) → T a
both_left true b t = tt
both_left false b t = t

pub both_right : (a b : Bool) → T (both a b) → T b
both_right true b t = t
both_right false b t = absurd t

abbrev pub all : {A : Type 0} → (A → Bool) → List A → Bool
all f [] = true
all f (x ∷ xs) = both (f x) (all f xs)

-- past the end stands d, which passes too, so no index is out of range
pub all-at : {A : Type 0} (f : A → Bool) (l : List A) (d : A) → T (f d) → T (all f l) → (i : ℕ) → T (f (get_or l i d))
all-at f [] d u t i = u
all-at f (x ∷ xs) d u t zero = both_left (f x) (all f xs) t
all-at f (x ∷ xs) d u t (suc i) = all-at f xs d u (both_right (f x) (all f xs) t) i

-- a fact of each number below n, made one by one
abbrev pub Each : (ℕ → Type 0) → ℕ → Type 0
Each P zero = Unit {0}
Each P (suc n) = P n × Each P n

pub each_at : (P : ℕ → Type 0) (n : ℕ) → Each P n → (k : ℕ) → k < n → P k
each_at P zero e k h = absurd (omega arith)
each_at P (suc n) (p, e) k h = go (eqb k n) refl (λ l. each_at P n e k l)
  where
    go : (t : Bool) → eqb k n ≡ t → (k < n → P k) → P k
    go true q f = subst P (sym (eqb-true k n q)) p
    go false q f = let d = eqb-false k n q in f (omega arith)
