-- Numbers in order: which they are, and what holds of each.
use mathlib.Core.Path.{◌≡◌, refl, sym, ap, ap₂, ◌∙◌, subst}
use mathlib.Core.Logic.{⊎_elim}
use mathlib.Core.List.Memᴰ
use mathlib.Core.List.{List, [], ◌∷◌, ◌++◌, map, map-id, Memᴰ}
use Prim.Native.Nat.{ℕ, zero, suc, ◌+◌, ◌-◌, ◌≤◌, ◌<◌}
use native.Mathlib.Omega.{arith}
use borrow.Author.Tests.{eqb-true, eqb-false}
use lib.Dec.{eqb}
use lib.ListN.{length, get_or}
use Rattle.whole.proofs.Tests.{by-test}
use Rattle.whole.specs.Lists.{numbers}

pub length-numbers : (n k : ℕ) → length (numbers n k) ≡ n
unfolding numbers
length-numbers zero k = refl
length-numbers (suc n) k = ap suc (length-numbers n (suc k))

pub numbers-at : (n k i d : ℕ) → i < n → get_or (numbers n k) i d ≡ k + i
unfolding numbers
numbers-at zero k i d h = absurd (omega arith)
numbers-at (suc n) k zero d h = omega arith
numbers-at (suc n) k (suc i) d h = omega (arith, numbers-at n (suc k) i d (omega arith))

-- a list by what stands at each of its places
pub by-places : {A : Type 0} (d : A) (h : ℕ → A) (l : List A) (k : ℕ)
    → ((i : ℕ) → i < length l → get_or l i d ≡ h (k + i)) → l ≡ map h (numbers (length l) k)
unfolding numbers
by-places d h [] k e = refl
by-places d h (x ∷ l) k e =
    let first : k + 0 ≡ k = omega arith in
    let rest : (i : ℕ) → i < length l → get_or l i d ≡ h (suc k + i) =
    λ i t. let n : k + suc i ≡ suc k + i = omega arith in e (suc i) (omega arith) ∙ ap h n in
    ap₂ ◌∷◌ (e 0 (omega arith) ∙ ap h first) (by-places d h l (suc k) rest)

pub places : {A : Type 0} (d : A) (l : List A) → l ≡ map (λ i. get_or l i d) (numbers (length l) 0)
places d l = by-places d (λ i. get_or l i d) l 0 (λ i h. let e : i ≡ 0 + i = omega arith in ap (λ n. get_or l n d) e)

-- the first m, and those after them
pub numbers-split : (m n k : ℕ) → numbers (m + n) k ≡ numbers m k ++ numbers n (k + m)
unfolding numbers
numbers-split zero n k =
    let e : 0 + n ≡ n = omega arith in
    let f : k ≡ k + 0 = omega arith in
    ap₂ numbers e f
numbers-split (suc m) n k =
    let e : suc m + n ≡ suc (m + n) = omega arith in
    let f : suc k + m ≡ k + suc m = omega arith in
    ap (λ i. numbers i k) e
    ∙ ap (λ l. k ∷ l) (numbers-split m n (suc k) ∙ ap (λ i. numbers m (suc k) ++ numbers n i) f)

-- functions that agree on numbers in order, each from a place of its own
pub map-moved : {A : Type 0} (f g : ℕ → A) (n j k : ℕ) → ((i : ℕ) → i < n → f (j + i) ≡ g (k + i))
    → map f (numbers n j) ≡ map g (numbers n k)
unfolding numbers
map-moved f g zero j k h = refl
map-moved f g (suc n) j k h =
    let a : j ≡ j + 0 = omega arith in
    let b : k + 0 ≡ k = omega arith in
    let next : (i : ℕ) → i < n → f (suc j + i) ≡ g (suc k + i) =
    λ i t.
    let c : suc j + i ≡ j + suc i = omega arith in
    let e : k + suc i ≡ suc k + i = omega arith in
    ap f c ∙ h (suc i) (omega arith) ∙ ap g e in
    λ m. (ap f a ∙ h 0 (omega arith) ∙ ap g b) m ∷ map-moved f g n (suc j) (suc k) next m

-- numbers that are each moved to their place among others
pub map-numbers : (f : ℕ → ℕ) (n j k : ℕ) → ((i : ℕ) → i < n → f (j + i) ≡ k + i)
    → map f (numbers n j) ≡ numbers n k
map-numbers f n j k h = map-moved f (λ i. i) n j k h ∙ map-id (numbers n k)

pub record Between (k n w : ℕ) : Type 0 where
  pub low : k ≤ w
  pub high : w < k + n

-- the numbers are those between
pub numbers-member : {w : ℕ} (n k : ℕ) → Memᴰ w (numbers n k) → Between k n w
unfolding numbers
numbers-member zero k m = absurd (Memᴰ.not-nil m)
numbers-member {w} (suc n) k m = ⊎_elim here (λ l. there (numbers-member n (suc k) l)) (Memᴰ.cases_cons m)
  where
    here : w ≡ k → Between k (suc n) w
    here e = record { low = omega arith; high = omega arith }

    there : Between (suc k) n w → Between k (suc n) w
    there b = record { low = omega (arith, b.low); high = omega (arith, b.high) }

pub member-numbers : (w n k : ℕ) → Between k n w → Memᴰ w (numbers n k)
unfolding numbers
member-numbers w zero k b = absurd (omega (arith, b.low, b.high))
member-numbers w (suc n) k b =
    by-test (eqb w k) (λ e. Memᴰ.head (eqb-true w k e))
    (λ e.
    let rest : Between (suc k) n w =
    record { low = omega (arith, b.low, eqb-false w k e); high = omega (arith, b.high) } in
    Memᴰ.tail (member-numbers w n (suc k) rest))

-- one more number stands last
pub numbers-next : (n k : ℕ) → numbers n k ++ ((k + n) ∷ []) ≡ numbers (n + 1) k
unfolding numbers
numbers-next zero k = let e : k + 0 ≡ k = omega arith in ap (λ i. i ∷ []) e
numbers-next (suc n) k =
    let e : k + suc n ≡ suc k + n = omega arith in
    let more : suc (n + 1) ≡ suc n + 1 = omega arith in
    ap (λ i. k ∷ (numbers n (suc k) ++ (i ∷ []))) e
    ∙ ap (λ l. k ∷ l) (numbers-next n (suc k))
    ∙ ap (λ m. numbers m k) more

-- what holds of each number below i, and of i
pub below_next : (P : ℕ → Type 0) (i : ℕ) → ((k : ℕ) → k < i → P k) → P i → (k : ℕ) → k < i + 1 → P k
below_next P i h p k t =
    by-test (eqb k i) (λ e. subst P (sym (eqb-true k i e)) p) (λ e. h k (omega (arith, eqb-false k i e)))

-- what stands at place i has number i + 1
pub at-number : {A : Type 0} (h : ℕ → A) (i : ℕ) → h i ≡ h (i + 1 - 1)
at-number h i = let e : i ≡ i + 1 - 1 = omega arith in ap h e
