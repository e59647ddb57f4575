-- The column is what the paper asks for, and nothing else is.
use mathlib.Core.Path.{◌≡◌, refl, sym, ap, ◌∙◌}
use mathlib.Core.Bool.{Bool, true, false, true≢false}
use mathlib.Core.Logic.{inl, inr, ⊎_elim}
use mathlib.Core.List.{List, map, Memᴰ}
use Prim.Native.Nat.{ℕ, ◌<◌}
use native.Mathlib.Omega.{arith}
use borrow.Author.Tests.{ltb-true, ltb-false, lt-ltb, le-ltb}
use lib.Dec.{ltb}
use lib.IntN.{ℤ, pos, ◌+ℤ◌}
use lib.ListN.{length, get_or}
use lib.Seq.{ext_get_or}
use lib.Signed.{lt_z}
use Rattle.whole.specs.Lists.{numbers, how_many}
use Rattle.whole.specs.Newton.{newtons}
use Rattle.whole.proofs.Parts.{add-law, eq-at, lt_by, le-by}
use Rattle.whole.proofs.Order.{true-lt, false-lt}
use Rattle.whole.proofs.Numbers.{numbers-member, member-numbers, places}
use Rattle.whole.proofs.Counting.{many-le, many-lt}
use Rattle.whole.proofs.Tests.{by-test}
use Rattle.sharing.specs.Column.{own_force, added_up, is_ahead, ahead, column}
use Rattle.sharing.specs.Fair.{Down, OneMore, IsColumn}
use Rattle.sharing.proofs.Remainders.{lacking, total-down}
use Rattle.sharing.proofs.Ranks.{rank_less}
use Rattle.sharing.proofs.Ahead.{strict}
use Rattle.sharing.proofs.Entries.{column-length, column-at}
use Rattle.sharing.proofs.AddsUp.{one_more_if, gets, share-is, sum_more, all-down, adds-up}

-- a number and one more are two
more-differs : (q : ℤ) → q ≡ q +ℤ pos 1 → ⊥
more-differs q e = omega (arith, eq-at e, add-law q (pos 1))

place : (fs : List ℤ) (i : ℕ) → i < length fs → Memᴰ i (numbers (length fs) 0)
place fs i h = member-numbers i (length fs) 0 (record { low = omega arith; high = omega arith })

placed : (fs : List ℤ) (i : ℕ) → Memᴰ i (numbers (length fs) 0) → i < length fs
placed fs i m = omega (arith, (numbers-member (length fs) 0 m).high)

-- ---- the column is such a list

module _ (fs : List ℤ) where
  entry-is : (i : ℕ) → i < length fs → get_or (column fs) i (pos 0) ≡ one_more_if (gets fs i) (newtons (own_force fs i))
  entry-is i h = column-at fs i h ∙ share-is fs i

  entry-by : (i : ℕ) → i < length fs → (t : Bool) → gets fs i ≡ t
      → get_or (column fs) i (pos 0) ≡ one_more_if t (newtons (own_force fs i))
  entry-by i h t e = entry-is i h ∙ ap (λ b. one_more_if b (newtons (own_force fs i))) e

  -- who gets one, so do all ahead of it
  got-ahead : (j i : ℕ) → j < length fs → is_ahead fs j i ≡ true → gets fs i ≡ true → gets fs j ≡ true
  unfolding ahead
  got-ahead j i h b g =
      let l = ltb-true (ahead fs i) (lacking fs) g in
      lt-ltb (ahead fs j) (lacking fs)
      (omega (arith, rank_less (is_ahead fs) (strict fs) (length fs) 0 i j (place fs j h) b))

  pub column-is : IsColumn fs (column fs)
  column-is =
      record {
        sized = column-length fs;
        each = λ i h. by-test (gets fs i) (λ e. inr (entry-by i h true e)) (λ e. inl (entry-by i h false e));
        adds = adds-up fs;
        fair =
            λ j i hj hi b m.
            by-test (gets fs i) (λ e. entry-by j hj true (got-ahead j i hj b e))
            (λ e. absurd (more-differs (newtons (own_force fs i)) (sym (entry-by i hi false e) ∙ m)));
      }

-- ---- and no other list is

module _ (fs col : List ℤ) (c : IsColumn fs col) where
  -- face i has one more
  abbrev has : ℕ → Bool
  has i = lt_z (newtons (own_force fs i)) (get_or col i (pos 0))

  has_more : (i : ℕ) → OneMore fs col i → has i ≡ true
  has_more i m =
      let q = newtons (own_force fs i) in
      ap (lt_z q) m ∙ true-lt (lt_by q (q +ℤ pos 1) (omega (arith, add-law q (pos 1))))

  has-none : (i : ℕ) → Down fs col i → has i ≡ false
  has-none i d =
      let q = newtons (own_force fs i) in
      ap (lt_z q) d ∙ false-lt (le-by q q (omega arith))

  entry_has : (i : ℕ) → i < length fs → get_or col i (pos 0) ≡ one_more_if (has i) (newtons (own_force fs i))
  entry_has i h =
      let q = newtons (own_force fs i) in
      ⊎_elim (λ d. d ∙ sym (ap (λ t. one_more_if t q) (has-none i d)))
      (λ m. m ∙ sym (ap (λ t. one_more_if t q) (has_more i m))) (c.each i h)

  more-has : (i : ℕ) → i < length fs → has i ≡ true → OneMore fs col i
  more-has i h e = entry_has i h ∙ ap (λ t. one_more_if t (newtons (own_force fs i))) e

  -- as many have one more as are missing
  all_have : how_many has (numbers (length fs) 0) ≡ lacking fs
  all_have =
      let ns = numbers (length fs) 0 in
      let a = added_up (map newtons fs) in
      let n = how_many has ns in
      let e : a +ℤ pos n ≡ a +ℤ pos (lacking fs) =
      ap (λ l. added_up l +ℤ pos n) (sym (all-down fs))
      ∙ sym
      (sum_more (λ i. get_or col i (pos 0)) (λ i. newtons (own_force fs i)) has ns
      (λ i m. entry_has i (placed fs i m)))
      ∙ ap (λ k. added_up (map (λ i. get_or col i (pos 0)) (numbers k 0))) (sym c.sized)
      ∙ ap added_up (sym (places (pos 0) col))
      ∙ c.adds
      ∙ total-down fs in
      omega (arith, eq-at e, add-law a (pos n), add-law a (pos (lacking fs)))

  -- all ahead of a face that has one have one, and it has one itself; who has one is ahead of a face that has none
  had : (i : ℕ) → i < length fs → (t : Bool) → has i ≡ t → gets fs i ≡ t
  unfolding ahead
  had i h true e =
      let m = more-has i h e in
      lt-ltb (ahead fs i) (lacking fs)
      (omega (
        arith,
        all_have,
        many-lt (λ j. is_ahead fs j i) has (numbers (length fs) 0)
            (λ j d b. has_more j (c.fair j i (placed fs j d) h b m)) i (place fs i h) ((strict fs).never i) e,
      ))
  had i h false e =
      le-ltb (ahead fs i) (lacking fs)
      (omega (
        arith,
        all_have,
        many-le has (λ j. is_ahead fs j i) (numbers (length fs) 0) (λ j d t. before j (placed fs j d) t),
      ))
    where
      none : (j : ℕ) → j < length fs → has j ≡ true → is_ahead fs i j ≡ true → ⊥
      none j l t b = true≢false (sym (has_more i (c.fair i j h l b (more-has j l t))) ∙ e)

      before : (j : ℕ) → j < length fs → has j ≡ true → is_ahead fs j i ≡ true
      before j l t =
          by-test (ltb i j)
          (λ d. ⊎_elim (λ b. absurd (none j l t b)) (λ b. b) ((strict fs).either i j (ltb-true i j d)))
          (λ d.
          by-test (ltb j i)
          (λ f. ⊎_elim (λ b. b) (λ b. absurd (none j l t b)) ((strict fs).either j i (ltb-true j i f)))
          (λ f.
          let same : i ≡ j = omega (arith, ltb-false i j d, ltb-false j i f) in
          absurd (true≢false (sym t ∙ sym (ap has same) ∙ e))))

  pub column-only : col ≡ column fs
  column-only =
      ext_get_or (pos 0) col (column fs) (c.sized ∙ sym (column-length fs))
      (λ i h.
      let l : i < length fs = omega (arith, c.sized) in
      entry_has i l ∙ ap (λ t. one_more_if t (newtons (own_force fs i))) (sym (had i l (has i) refl))
      ∙ sym (entry-is fs i l))
