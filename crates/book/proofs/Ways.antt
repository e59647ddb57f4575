-- The walk over the rows of a part finds two of them, and a fraction of the way from one to the other.
use mathlib.Core.Path.{◌≡◌, refl, ◌∙◌}
use mathlib.Core.Bool.{cond}
use mathlib.Core.List.{List, [], ◌∷◌}
use Prim.Native.Nat.{ℕ, zero, suc, ◌+◌, ◌-◌, ◌*◌, ◌≤◌, ◌<◌}
use native.Mathlib.Nat.{mul-le-mul_right}
use native.Mathlib.Numerals.{add-one}
use native.Mathlib.Omega.{arith}
use lib.Dec.{leb}
use lib.ListN.{length, get_or, drop}
use lib.Seq.{drop-cons}
use borrow.Author.Tests.{leb-false, le-leb, lt-leb}
use Rattle.whole.specs.Lists.{Every}
use Rattle.whole.proofs.Tests.{by-test}
use Rattle.whole.proofs.Lowest.{lowest-within}
use Rattle.book.specs.Row.{Row, no_row, Standing}
use Rattle.book.specs.Line.{Way, on, between, way_in}

-- what stands past the end of a list of rows
abbrev pub no_standing : Standing
no_standing = record { at = 0; row = no_row }

-- what holds of each row holds of the two that are found
pub way-rows : (P : Row → Type 0) (rows : List Standing) (x d : ℕ) → 0 < length rows → Every (λ s. P s.row) rows
    → P (way_in rows x d).lower × P (way_in rows x d).upper
unfolding way_in
way-rows P [] x d some h = absurd (omega arith)
way-rows P (r ∷ []) x d some h = (h.0, h.0)
way-rows P (r ∷ s ∷ rows) x d some h =
    by-test (leb x (r.at * d)) (λ e. rw e (h.0, h.0))
    (λ e. by-test (leb (s.at * d) x) (λ f. rw (e, f) (way-rows P (s ∷ rows) x d (omega arith) h.1))
    (λ f. rw (e, f) (h.0, h.1.0)))

-- the fraction is one
pub record Proper (w : Way) : Type 0 where
  pub within : w.part ≤ w.whole
  pub some : 0 < w.whole

on-proper : (r : Row) → Proper (on r)
on-proper r = record { within = omega arith; some = omega arith }

module _ (r s : Standing) (x d : ℕ) (from : r.at * d < x) (to : x < s.at * d) where
  pub between-proper : Proper (between r s x d)
  between-proper =
      let low = lowest-within (x - r.at * d) (s.at * d - r.at * d) (omega arith) (omega arith) in
      record { within = low.0; some = low.1 }

  between-small : (between r s x d).whole ≤ s.at * d
  between-small =
      let low = lowest-within (x - r.at * d) (s.at * d - r.at * d) (omega arith) (omega arith) in
      omega (arith, low.2)

pub way-proper : (rows : List Standing) (x d : ℕ) → Proper (way_in rows x d)
unfolding way_in
way-proper [] x d = on-proper no_row
way-proper (r ∷ []) x d = on-proper r.row
way-proper (r ∷ s ∷ rows) x d =
    by-test (leb x (r.at * d)) (λ e. rw e (on-proper r.row))
    (λ e. by-test (leb (s.at * d) x) (λ f. rw (e, f) (way-proper (s ∷ rows) x d))
    (λ f. rw (e, f) (between-proper r s x d (leb-false x (r.at * d) e) (leb-false (s.at * d) x f))))

-- and its whole no larger than where the last row stands
pub way-small : (k : ℕ) (rows : List Standing) (x d : ℕ) → Every (λ s. s.at ≤ k) rows
    → (way_in rows x d).whole ≤ k * d + 1
unfolding way_in
way-small k [] x d h = omega arith
way-small k (r ∷ []) x d h = omega arith
way-small k (r ∷ s ∷ rows) x d h =
    by-test (leb x (r.at * d)) (λ e. rw e (omega arith))
    (λ e. by-test (leb (s.at * d) x) (λ f. rw (e, f) (way-small k (s ∷ rows) x d h.1))
    (λ f.
    let b = between-small r s x d (leb-false x (r.at * d) e) (leb-false (s.at * d) x f) in
    let most = mul-le-mul_right d h.1.0 in
    rw (e, f) (omega arith)))

-- ---- the walk as a loop takes it, from row i

module _ (rows : List Standing) (x d i : ℕ) where
  abbrev this : Standing
  this = get_or rows i no_standing

  abbrev next : Standing
  next = get_or rows (i + 1) no_standing

  two : i + 1 < length rows → drop i rows ≡ this ∷ next ∷ drop (suc (i + 1)) rows
  two h = rw (drop-cons rows i no_standing (omega arith), ← add-one i, drop-cons rows (i + 1) no_standing (omega arith))

  -- the walk by its two tests
  walk_is : i + 1 < length rows
      → way_in (drop i rows) x d ≡ cond (leb x (this.at * d)) (on this.row)
      (cond (leb (next.at * d) x) (way_in (drop (i + 1) rows) x d) (between this next x d))
  unfolding way_in
  walk_is h =
      rw (two h, drop-cons rows (i + 1) no_standing h)

  pub way_on : i + 1 < length rows → x ≤ this.at * d → way_in (drop i rows) x d ≡ on this.row
  way_on h e = walk_is h ∙ rw (le-leb x (this.at * d) e)

  pub way-passes : i + 1 < length rows → this.at * d < x → next.at * d ≤ x
      → way_in (drop i rows) x d ≡ way_in (drop (i + 1) rows) x d
  way-passes h e f = walk_is h ∙ rw (lt-leb x (this.at * d) e, le-leb (next.at * d) x f)

  pub way-between : i + 1 < length rows → this.at * d < x → x < next.at * d
      → way_in (drop i rows) x d ≡ between this next x d
  way-between h e f = walk_is h ∙ rw (lt-leb x (this.at * d) e, lt-leb (next.at * d) x f)

pub way-ends : (rows : List Standing) (x d i : ℕ) → i + 1 ≡ length rows
    → way_in (drop i rows) x d ≡ on (get_or rows i no_standing).row
unfolding way_in
way-ends [] x d i h = absurd (omega arith)
way-ends (r ∷ []) x d zero h = refl
way-ends (r ∷ s ∷ rows) x d zero h = absurd (omega arith)
way-ends (r ∷ rows) x d (suc i) h = way-ends rows x d i (omega arith)
