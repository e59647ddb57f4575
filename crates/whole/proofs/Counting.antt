-- How many of a list have something: gone through one by one, no more than there are, and no more than have something
-- that follows from it.
use mathlib.Core.Path.{◌≡◌, refl, sym, ap, ◌∙◌}
use mathlib.Core.Bool.{Bool, true, false, cond, true≢false}
use mathlib.Core.Logic.{⊎_elim}
use mathlib.Core.List.Memᴰ
use mathlib.Core.List.{List, [], ◌∷◌, ◌++◌, map, Memᴰ}
use Prim.Native.Nat.{ℕ, zero, suc, ◌+◌, ◌≤◌, ◌<◌}
use native.Mathlib.Numerals.{add-one}
use native.Mathlib.Omega.{arith}
use lib.ListN.{length, get_or, take}
use Rattle.whole.specs.Lists.{numbers, how_many}
use Rattle.whole.proofs.Numbers.{numbers-next}

-- one more
pub many-next : {A : Type 0} (has : A → Bool) (l : List A) (d : A) (i : ℕ) → i < length l
    → cond (has (get_or l i d)) (suc (how_many has (take i l))) (how_many has (take i l)) ≡ how_many has (take
    (i + 1) l)
unfolding how_many
many-next {A} has l d i h = go l i h ∙ ap (λ n. how_many has (take n l)) (sym (add-one i))
  where
    -- one more in front goes either way
    swap : (s t : Bool) (n : ℕ) → cond s (suc (cond t (suc n) n)) (cond t (suc n) n)
        ≡ cond t (suc (cond s (suc n) n)) (cond s (suc n) n)
    swap true true n = refl
    swap true false n = refl
    swap false true n = refl
    swap false false n = refl

    go : (l : List A) (i : ℕ) → i < length l
        → cond (has (get_or l i d)) (suc (how_many has (take i l))) (how_many has (take i l))
        ≡ how_many has (take (suc i) l)
    go [] i h = absurd (omega arith)
    go (x ∷ l) zero h = refl
    go (x ∷ l) (suc i) h =
        swap (has (get_or l i d)) (has x) (how_many has (take i l))
        ∙ ap (λ n. cond (has x) (suc n) n) (go l i (omega arith))

pub many-few : {A : Type 0} (has : A → Bool) (l : List A) → how_many has l ≤ length l
unfolding how_many
many-few has [] = omega arith
many-few has (x ∷ l) = go (has x) (many-few has l)
  where
    go : (t : Bool) → how_many has l ≤ length l → cond t (suc (how_many has l)) (how_many has l) ≤ suc (length l)
    go true h = omega arith
    go false h = omega arith

-- ---- of lists put together

module _ {A : Type 0} (has : A → Bool) where
  pub many-append : (k l : List A) → how_many has (k ++ l) ≡ how_many has k + how_many has l
  unfolding how_many
  many-append [] l = omega arith
  many-append (x ∷ k) l = go (how_many has k) (has x) (many-append k l)
    where
      go : {m : ℕ} (n : ℕ) (t : Bool) → m ≡ n + how_many has l → cond t (suc m) m ≡ cond t (suc n) n + how_many has l
      go n true e = omega arith
      go n false e = omega arith

  pub many-map : {C : Type 0} (f : C → A) (l : List C) → how_many has (map f l) ≡ how_many (λ x. has (f x)) l
  unfolding how_many
  many-map f [] = refl
  many-map f (x ∷ l) = ap (λ n. cond (has (f x)) (suc n) n) (many-map f l)

-- one number more
pub many-number : (has : ℕ → Bool) (n : ℕ)
    → how_many has (numbers (n + 1) 0) ≡ cond (has n) (suc (how_many has (numbers n 0))) (how_many has (numbers n 0))
unfolding how_many
many-number has n =
    let e : 0 + n ≡ n = omega arith in
    ap (how_many has) (sym (numbers-next n 0) ∙ ap (λ i. numbers n 0 ++ (i ∷ [])) e)
    ∙ many-append has (numbers n 0) (n ∷ [])
    ∙ go (how_many has (numbers n 0)) (has n)
  where
    go : (m : ℕ) (t : Bool) → m + cond t 1 0 ≡ cond t (suc m) m
    go m true = omega arith
    go m false = omega arith

-- ---- of one list, in two ways

module _ {A : Type 0} (has also : A → Bool) where
  pub many-same : (l : List A) → ((x : A) → Memᴰ x l → has x ≡ also x) → how_many has l ≡ how_many also l
  unfolding how_many
  many-same [] e = refl
  many-same (x ∷ l) e =
      let rest = many-same l (λ y m. e y (Memᴰ.tail m)) in
      λ i. cond (e x (Memᴰ.head refl) i) (suc (rest i)) (rest i)

  abbrev pub Follows : List A → Type 0
  Follows l = (x : A) → Memᴰ x l → has x ≡ true → also x ≡ true

  pub many-le : (l : List A) → Follows l → how_many has l ≤ how_many also l
  unfolding how_many
  many-le [] h = omega arith
  many-le (x ∷ l) h = go (has x) (also x) (h x (Memᴰ.head refl)) (many-le l (λ y m. h y (Memᴰ.tail m)))
    where
      go : {m n : ℕ} (s t : Bool) → (s ≡ true → t ≡ true) → m ≤ n → cond s (suc m) m ≤ cond t (suc n) n
      go true true e k = omega arith
      go true false e k = absurd (true≢false (sym (e refl)))
      go false true e k = omega arith
      go false false e k = k

  -- and fewer, where one has the second only
  pub many-lt : (l : List A) → Follows l → (x : A) → Memᴰ x l → has x ≡ false → also x ≡ true
      → how_many has l < how_many also l
  unfolding how_many
  many-lt [] h x m e f = absurd (Memᴰ.not-nil m)
  many-lt (y ∷ l) h x m e f =
      ⊎_elim
      (λ i. here (has y) (also y) (ap has (sym i) ∙ e) (ap also (sym i) ∙ f) (many-le l later))
      (λ n. there (has y) (also y) (h y (Memᴰ.head refl)) (many-lt l later x n e f)) (Memᴰ.cases_cons m)
    where
      later : Follows l
      later z n = h z (Memᴰ.tail n)

      here : {m n : ℕ} (s t : Bool) → s ≡ false → t ≡ true → m ≤ n → cond s (suc m) m < cond t (suc n) n
      here true t e f k = absurd (true≢false e)
      here false true e f k = omega arith
      here false false e f k = absurd (true≢false (sym f))

      there : {m n : ℕ} (s t : Bool) → (s ≡ true → t ≡ true) → m < n → cond s (suc m) m < cond t (suc n) n
      there true true e k = omega arith
      there true false e k = absurd (true≢false (sym (e refl)))
      there false true e k = omega arith
      there false false e k = k
