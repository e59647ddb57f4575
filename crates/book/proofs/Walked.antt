-- Where the walk over a part's rows stops: wherever x/d lies in a part that rises, and nowhere else.
use mathlib.Core.Path.{◌≡◌, refl, sym, ap, ◌∙◌}
use mathlib.Core.Logic.{⊎_elim}
use mathlib.Core.List.Memᴰ
use mathlib.Core.List.{List, [], ◌∷◌, Memᴰ}
use Prim.Native.Nat.{ℕ, ◌-◌, ◌*◌, ◌≤◌, ◌<◌}
use native.Mathlib.Nat.{mul-le-mul_right, mul-lt-mul_of_pos_right}
use native.Mathlib.Omega.{arith}
use lib.Dec.{leb}
use borrow.Author.Tests.{leb-true, leb-false, le-leb, lt-leb}
use Rattle.whole.proofs.Tests.{by-test}
use Rattle.whole.proofs.Lowest.{lowest-terms, lowest-unique}
use Rattle.book.specs.Row.{Standing}
use Rattle.book.specs.Line.{Way, on, between, way_in}
use Rattle.book.specs.Interpolated.{Neighbours, first, later, Rising, LiesAt, alone, up_to_first, on_row}
use Rattle.book.specs.Interpolated.{between_rows}
use Rattle.book.proofs.Neighbours.{neighbours-from, row_from}

-- the number at which the last row stands
abbrev pub last_at : List Standing → ℕ
last_at [] = 0
last_at (r ∷ []) = r.at
last_at (r ∷ s ∷ rows) = last_at (s ∷ rows)

module _ (x d : ℕ) where
  -- ---- one step

  stops : (r : Standing) (rows : List Standing) → x ≤ r.at * d → way_in (r ∷ rows) x d ≡ on r.row
  unfolding way_in
  stops r [] h = refl
  stops r (s ∷ rows) h = rw (le-leb x (r.at * d) h)

  module _ (r s : Standing) (rows : List Standing) (from : r.at * d < x) where
    passes : s.at * d ≤ x → way_in (r ∷ s ∷ rows) x d ≡ way_in (s ∷ rows) x d
    unfolding way_in
    passes h = rw (lt-leb x (r.at * d) from, le-leb (s.at * d) x h)

    stops-between : x < s.at * d → way_in (r ∷ s ∷ rows) x d ≡ between r s x d
    unfolding way_in
    stops-between h = rw (lt-leb x (r.at * d) from, lt-leb (s.at * d) x h)

  onto : {r : Standing} (t : Standing) (rows : List Standing) → r ≡ t → x ≡ r.at * d
      → way_in (t ∷ rows) x d ≡ on r.row
  onto t rows f e =
      let same = ap (λ (q : Standing). q.at * d) f in
      stops t rows (omega arith) ∙ ap (λ (q : Standing). on q.row) (sym f)

  module _ (some : 0 < d) where
    -- ---- it stops on the row where x/d lies, or between the two

    pub walk-on : {r : Standing} (rows : List Standing) → Rising rows → Memᴰ r rows → x ≡ r.at * d
        → way_in rows x d ≡ on r.row
    walk-on [] rises m e = absurd (Memᴰ.not-nil m)
    walk-on (t ∷ []) rises m e = onto t [] (Memᴰ.eq_of_singleton m) e
    walk-on (t ∷ s ∷ rows) rises m e =
        ⊎_elim (λ f. onto t (s ∷ rows) f e)
        (λ n. let a = mul-lt-mul_of_pos_right rises.0 some in
        let b = mul-le-mul_right d (row_from s rows rises.1 n) in
        passes t s rows (omega arith) (omega arith) ∙ walk-on (s ∷ rows) rises.1 n e) (Memᴰ.cases_cons m)

    pub walk-within : {lower upper : Standing} (rows : List Standing) → Rising rows → Neighbours rows lower upper
        → lower.at * d < x → x < upper.at * d → way_in rows x d ≡ between lower upper x d
    walk-within (r ∷ s ∷ rows) rises first from to = stops-between r s rows from to
    walk-within (r ∷ s ∷ rows) rises (later n) from to =
        let a = mul-lt-mul_of_pos_right rises.0 some in
        let b = mul-le-mul_right d (neighbours-from s rows rises.1 n) in
        passes r s rows (omega arith) (omega arith) ∙ walk-within (s ∷ rows) rises.1 n from to
    walk-within {lower = lower} {upper = upper} [] rises n from to = elim n [ ]
    walk-within {lower = lower} {upper = upper} (r ∷ []) rises n from to = elim n [ ]

    -- so nothing but what the walk finds is where x/d lies
    pub lies-only : (rows : List Standing) → Rising rows → {w : Way} → LiesAt rows x d w → w ≡ way_in rows x d
    unfolding way_in
    lies-only rows rises (alone e) = rw e
    lies-only rows rises (up_to_first {r} {rest} e h) = sym (rw e (stops r rest h))
    lies-only rows rises (on_row m e) = sym (walk-on rows rises m e)
    lies-only rows rises (between_rows {lower} {upper} n from to low) =
        let a = x - lower.at * d in
        let b = upper.at * d - lower.at * d in
        let u = lowest-unique a b (omega arith) low (lowest-terms a b (omega arith)) in
        rw (u.0, u.1) (sym (walk-within rows rises n from to))

    -- ---- and there x/d does lie

    further : (r s : Standing) (rows : List Standing) → x ≤ last_at (s ∷ rows) * d → s.at * d ≤ x → {w : Way}
        → LiesAt (s ∷ rows) x d w → LiesAt (r ∷ s ∷ rows) x d w
    further r s [] to from (alone {r = t} e) =
        let same : t ≡ s = cc in
        let f = ap (λ (q : Standing). q.at * d) same in
        on_row (Memᴰ.tail (Memᴰ.head same)) (omega arith)
    further r s (t ∷ rows) to from (alone e) = let z : ◌≡◌ {A = ℕ} 0 1 = cc in absurd (omega arith)
    further r s rows to from (up_to_first {r = t} e h) =
        let same : t ≡ s = cc in
        let f = ap (λ (q : Standing). q.at * d) same in
        on_row (Memᴰ.tail (Memᴰ.head same)) (omega arith)
    further r s rows to from (on_row m e) = on_row (Memᴰ.tail m) e
    further r s rows to from (between_rows n f t low) = between_rows (later n) f t low

    pub lies-walked : (r : Standing) (rows : List Standing) → x ≤ last_at (r ∷ rows) * d
        → LiesAt (r ∷ rows) x d (way_in (r ∷ rows) x d)
    unfolding way_in
    lies-walked r [] to = alone refl
    lies-walked r (s ∷ rows) to =
        by-test (leb x (r.at * d))
        (λ e. rw e (up_to_first refl (leb-true x (r.at * d) e)))
        (λ e. let f = leb-false x (r.at * d) e in
        by-test (leb (s.at * d) x)
        (λ g. let h = leb-true (s.at * d) x g in rw (e, g) (further r s rows to h (lies-walked s rows to)))
        (λ g. let h = leb-false (s.at * d) x g in
        rw (e, g)
        (between_rows first f h (lowest-terms (x - r.at * d) (s.at * d - r.at * d) (omega arith)))))
