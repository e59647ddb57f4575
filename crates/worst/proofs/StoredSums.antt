-- Stored sums: what stands at a cell, cells stored one after the other, and which cells count.
use mathlib.Core.Path.{◌≡◌, refl, sym, ap, ap₂, ◌∙◌, subst}
use mathlib.Core.Bool.{Bool, true, false, cond, ◌&&◌}
use mathlib.Core.List.{List, [], ◌∷◌, map}
use Prim.Native.Nat.{ℕ, zero, suc, ◌+◌, ◌*◌, ◌/◌, ◌%◌, ◌≤◌, ◌<◌}
use native.Mathlib.Omega.{arith}
use borrow.Author.Tests.{eqb-true, eqb-false, ltb-true, ltb-false, lt-ltb, le-ltb}
use lib.Dec.{eqb, ltb}
use lib.ListN.{length, get_or, set, length-map, length-set}
use lib.Seq.{get_or-set_same, get_or-set_other}
use Rattle.whole.proofs.Tests.{by-test}
use Rattle.whole.specs.Lists.{numbers}
use Rattle.whole.proofs.Lists.{get_d_map}
use Rattle.whole.proofs.Numbers.{length-numbers, numbers-at, by-places}
use Rattle.worst.specs.declared.StoredCell.{StoredCell}
use Rattle.worst.specs.Forces.{Given}
use Rattle.worst.specs.Stored.{stored_cells, no_cell, cells_of, cell_of, sums_at}
use Rattle.worst.specs.Engine.{UpTo}

-- ---- what stands at a cell

pub cells_at : (h : ℕ → StoredCell) (k : ℕ) → k < stored_cells → get_or (cells_of h).cell k no_cell ≡ h k
cells_at h k t =
    let e : 0 + k ≡ k = omega arith in
    get_d_map h (numbers stored_cells 0) k 0 no_cell (omega (arith, length-numbers stored_cells 0))
    ∙ ap h (numbers-at stored_cells 0 k 0 t ∙ e)

pub cells-by : (h : ℕ → StoredCell) (l : List StoredCell) → length l ≡ stored_cells
    → ((k : ℕ) → k < stored_cells → get_or l k no_cell ≡ h k) → record { cell = l } ≡ cells_of h
cells-by h l e t =
    ap (λ m. record { cell = m })
    (by-places no_cell h l 0 (λ i n. let z : i ≡ 0 + i = omega arith in t i (omega (arith, e)) ∙ ap h z)
    ∙ ap (λ n. map h (numbers n 0)) e)

pub cells_same : (h g : ℕ → StoredCell) → ((k : ℕ) → k < stored_cells → h k ≡ g k) → cells_of h ≡ cells_of g
cells_same h g e =
    cells-by g (cells_of h).cell (length-map (numbers stored_cells 0) h ∙ length-numbers stored_cells 0)
    (λ k t. cells_at h k t ∙ e k t)

-- ---- cells stored one after the other

none-at : {A : Type 0} (d : A) (l : List ℕ) (k : ℕ) → get_or (map (λ i. d) l) k d ≡ d
none-at d [] k = refl
none-at d (x ∷ l) zero = refl
none-at d (x ∷ l) (suc k) = none-at d l k

module _ (size : ℕ) (h : ℕ → StoredCell) where
  pub up-to-none : UpTo size h 0 (map (λ k. no_cell) (numbers size 0))
  up-to-none =
      record {
        all = length-map (numbers size 0) (λ i. no_cell) ∙ length-numbers size 0;
        stand = λ k t. absurd (omega arith);
        rest = λ k t. none-at no_cell (numbers size 0) k;
      }

  pub up-to-next : (n : ℕ) (l : List StoredCell) (c : StoredCell) → n < size → UpTo size h n l → h n ≡ c
      → UpTo size h (n + 1) (set l n c)
  up-to-next n l c t u e =
      record {
        all = length-set l n c ∙ u.all;
        stand = λ k s. by-test (eqb k n)
            (λ q. subst (λ m. get_or (set l n c) m no_cell ≡ h m) (sym (eqb-true k n q))
            (get_or-set_same l n c no_cell (omega (arith, u.all)) ∙ sym e))
            (λ q. let other = eqb-false k n q in
            get_or-set_other l n k c no_cell other ∙ u.stand k (omega (arith, other)));
        rest = λ k s. get_or-set_other l n k c no_cell (λ q. absurd (omega (arith, q))) ∙ u.rest k (omega arith);
      }

  -- up to a later cell, where there is nothing to store
  pub up-to-more : (n m : ℕ) (l : List StoredCell) → n ≤ m → UpTo size h n l
      → ((k : ℕ) → n ≤ k → k < m → h k ≡ no_cell) → UpTo size h m l
  up-to-more n m l t u e =
      record {
        all = u.all;
        stand = λ k s. by-test (ltb k n) (λ q. u.stand k (ltb-true k n q))
            (λ q. let past = ltb-false k n q in u.rest k past ∙ sym (e k past s));
        rest = λ k s. u.rest k (omega arith);
      }

  -- four more at once
  pub up-to-four : (n m : ℕ) → n + 4 ≡ m → (l : List StoredCell) (c : ℕ → StoredCell) → n + 3 < size
      → UpTo size h n l → ((i : ℕ) → i < 4 → h (n + i) ≡ c i)
      → UpTo size h m (set (set (set (set l n (c 0)) (n + 1) (c 1)) (n + 2) (c 2)) (n + 3) (c 3))
  up-to-four n m q l c t u e =
      let zeroth : n ≡ n + 0 = omega arith in
      let one = set l n (c 0) in
      let two = set one (n + 1) (c 1) in
      let three = set two (n + 2) (c 2) in
      subst (λ x. UpTo size h x (set three (n + 3) (c 3))) q
      (next 3 three (omega arith) (next 2 two (omega arith) (next 1 one (omega arith)
      (up-to-next n l (c 0) (omega arith) u (ap h zeroth ∙ e 0 (omega arith))))))
    where
      next : (i : ℕ) (k : List StoredCell) → i < 4 → UpTo size h (n + i) k
          → UpTo size h (n + (i + 1)) (set k (n + i) (c i))
      next i k b v =
          let m : n + i + 1 ≡ n + (i + 1) = omega arith in
          subst (λ x. UpTo size h x (set k (n + i) (c i))) m (up-to-next (n + i) k (c i) (omega arith) v (e i b))

pub up-to-all : (h : ℕ → StoredCell) (l : List StoredCell) → UpTo stored_cells h stored_cells l
    → record { cell = l } ≡ cells_of h
up-to-all h l u = cells-by h l u.all u.stand

-- ---- the cell of a wind and an internal coefficient, both from 0

module _ (g : Given) where
  -- by its numbers
  abbrev at_numbers : ℕ → ℕ → StoredCell
  at_numbers w i = cond (ltb w (length g.winds) && ltb i (length g.internals)) (cell_of g (w + 1) (i + 1)) no_cell

  placed : (w i : ℕ) → i < 4 → sums_at g (4 * w + i) ≡ at_numbers w i
  placed w i t =
      let wind : (4 * w + i) / 4 ≡ w = omega arith in
      let internal : (4 * w + i) % 4 ≡ i = omega arith in
      ap₂ at_numbers wind internal

  pub sums-counted : (w i : ℕ) → i < 4 → w < length g.winds → i < length g.internals
      → sums_at g (4 * w + i) ≡ cell_of g (w + 1) (i + 1)
  sums-counted w i t hw hi =
      placed w i t ∙ rw (lt-ltb w (length g.winds) hw, lt-ltb i (length g.internals) hi)

  pub internal-past : (w i : ℕ) → i < 4 → length g.internals ≤ i → sums_at g (4 * w + i) ≡ no_cell
  internal-past w i t hi = placed w i t ∙ rw (le-ltb i (length g.internals) hi) (go (ltb w (length g.winds)))
    where
      go : (b : Bool) → cond (b && false) (cell_of g (w + 1) (i + 1)) no_cell ≡ no_cell
      go true = refl
      go false = refl

  pub wind-past : (k : ℕ) → 4 * length g.winds ≤ k → sums_at g k ≡ no_cell
  wind-past k h = rw (le-ltb (k / 4) (length g.winds) (omega arith))
