-- Numbers in any strict order `b`, where `b j i` says that j is ahead of i: of n numbers, m have fewer than m ahead of
-- them.
use mathlib.Core.Path.{◌≡◌, sym, ap, ◌∙◌}
use mathlib.Core.Bool.{Bool, true, false, cond, true≢false}
use mathlib.Core.Logic.{◌⊎◌, inl, inr, ⊎_elim}
use mathlib.Core.List.{Memᴰ}
use Prim.Native.Nat.{ℕ, zero, suc, ◌-◌, ◌≤◌, ◌<◌}
use native.Mathlib.Omega.{arith}
use borrow.Author.Tests.{ltb-true, ltb-false, lt-ltb}
use lib.Dec.{ltb}
use Rattle.whole.specs.Lists.{numbers, how_many}
use Rattle.whole.proofs.Tests.{by-test}
use Rattle.whole.proofs.Numbers.{numbers-member, length-numbers}
use Rattle.whole.proofs.Counting.{many-few, many-same, many-le, many-lt}

pub record Strict (b : ℕ → ℕ → Bool) : Type 0 where
  pub never : (i : ℕ) → b i i ≡ false
  pub chain : {i j k : ℕ} → b i j ≡ true → b j k ≡ true → b i k ≡ true
  pub either : (i j : ℕ) → i < j → (b i j ≡ true) ⊎ (b j i ≡ true)

-- two tests that hold together
pub same_test : (a m c n : ℕ) → (a < m → c < n) → (c < n → a < m) → ltb a m ≡ ltb c n
same_test a m c n f g =
    by-test (ltb c n) (λ e. lt-ltb a m (g (ltb-true c n e)) ∙ sym e)
    (λ e.
    by-test (ltb a m) (λ d. let l = f (ltb-true a m d) in absurd (omega (arith, ltb-false c n e)))
    (λ d. d ∙ sym e))

module _ (b : ℕ → ℕ → Bool) (s : Strict b) where
  pub opposite : {i j : ℕ} → b i j ≡ true → b j i ≡ false
  opposite {i} {j} e = by-test (b j i) (λ f. absurd (true≢false (sym (s.chain e f) ∙ s.never i))) (λ f. f)

  -- how many of the n numbers from k on are ahead of i
  abbrev pub rank : ℕ → ℕ → ℕ → ℕ
  rank n k i = how_many (λ j. b j i) (numbers n k)

  -- fewer are ahead of one that is ahead
  pub rank_less : (n k i j : ℕ) → Memᴰ j (numbers n k) → b j i ≡ true → rank n k j < rank n k i
  rank_less n k i j m e = many-lt (λ x. b x j) (λ x. b x i) (numbers n k) (λ x d f. s.chain f e) j m (s.never j) e

  -- the number k itself before those from k + 1 on: those ahead of it have as many ahead of them as before, the others
  -- one more
  module _ (n k m i : ℕ) (in' : Memᴰ i (numbers n (suc k))) where
    abbrev here : ℕ
    here = rank n (suc k) k

    abbrev there : ℕ
    there = rank n (suc k) i

    sides : ((b k i ≡ true) × (here ≤ there)) ⊎ ((b k i ≡ false) × (there < here))
    sides =
        let l = (numbers-member n (suc k) in').low in
        ⊎_elim (λ e. inl (e, many-le (λ x. b x k) (λ x. b x i) (numbers n (suc k)) (λ x d f. s.chain f e)))
        (λ e. inr (opposite e, rank_less n (suc k) k i in' e)) (s.either k i (omega arith))

    abbrev now-there : ℕ
    now-there = cond (b k i) (suc there) there

    stepped : ((now-there ≡ suc there) × (here ≤ there)) ⊎ ((now-there ≡ there) × (there < here))
    stepped =
        ⊎_elim (λ x. inl (ap (λ t. cond t (suc there) there) x.0, x.1))
        (λ x. inr (ap (λ t. cond t (suc there) there) x.0, x.1)) sides

    won : here < m → ltb now-there m ≡ ltb there (m - 1)
    won h =
        ⊎_elim (λ x. same_test now-there m there (m - 1) (λ l. omega arith) (λ l. omega arith))
        (λ x. same_test now-there m there (m - 1) (λ l. omega arith) (λ l. omega arith)) stepped

    lost : m ≤ here → ltb now-there m ≡ ltb there m
    lost h =
        ⊎_elim (λ x. same_test now-there m there m (λ l. omega arith) (λ l. omega arith))
        (λ x. same_test now-there m there m (λ l. omega arith) (λ l. omega arith)) stepped

  pub winners : (n k m : ℕ) → m ≤ n → how_many (λ i. ltb (rank n k i) m) (numbers n k) ≡ m
  unfolding numbers how_many
  winners zero k m h = omega arith
  winners (suc n) k m h =
      rw (s.never k)
      (by-test (ltb (rank n (suc k) k) m)
      (λ e.
      rw e
      (ap suc
      (many-same (λ i. ltb (cond (b k i) (suc (rank n (suc k) i)) (rank n (suc k) i)) m)
      (λ i. ltb (rank n (suc k) i) (m - 1)) (numbers n (suc k))
      (λ i d. won n k m i d (ltb-true (rank n (suc k) k) m e))
      ∙ winners n (suc k) (m - 1) (omega arith))
      ∙ omega (arith, ltb-true (rank n (suc k) k) m e)))
      (λ e.
      let l = ltb-false (rank n (suc k) k) m e in
      rw e
      (many-same (λ i. ltb (cond (b k i) (suc (rank n (suc k) i)) (rank n (suc k) i)) m)
      (λ i. ltb (rank n (suc k) i) m) (numbers n (suc k)) (λ i d. lost n k m i d l)
      ∙ winners n (suc k) m
      (omega (arith, many-few (λ j. b j k) (numbers n (suc k)), length-numbers n (suc k))))))
