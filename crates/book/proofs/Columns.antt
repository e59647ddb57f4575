-- The columns that places have are columns of their tables.
use mathlib.Core.Path.{◌≡◌, refl}
use mathlib.Core.Bool.{Bool, true, false, cond, ◌||◌}
use Prim.Native.Nat.{ℕ, ◌+◌, ◌-◌, ◌≤◌, ◌<◌}
use native.Mathlib.Omega.{arith}
use lib.Dec.{leb, eqb, lit<}
use borrow.Author.Tests.{eqb-true, eqb-false, ne_eqb}
use Rattle.whole.proofs.Tests.{by-test, or_left}
use Rattle.building.specs.Test.{among}
use Rattle.building.specs.Places.{A, D, E, F, G, L1, wall_local, wall_place}
use Rattle.building.proofs.Places.{among-yes}
use Rattle.book.specs.Roofs.{width}
use Rattle.book.specs.Question.{wall_column, half_of, flank_of, gable_column, single_column, flat_column}
use Rattle.book.specs.Question.{roof_column}

pub wall-letter : (place : ℕ) → wall_place place ≡ true → (place ≡ wall_local → ⊥) → (A ≤ place) × (place ≤ D)
wall-letter place e n = among-yes A D place (or_left (among A D place) (ne_eqb place wall_local n) e)

pub wall_column-below : (wind place : ℕ) → wall_place place ≡ true → wall_column wind place < 9
unfolding wall_column
wall_column-below wind place e = go (eqb place wall_local) (eqb wind 0) refl
  where
    go : (t u : Bool) → eqb place wall_local ≡ t → cond t 8 (cond u (place - A) (4 + (place - A))) < 9
    go true u p = lit< tt
    go false true p = let r = wall-letter place e (eqb-false place wall_local p) in omega arith
    go false false p = let r = wall-letter place e (eqb-false place wall_local p) in omega arith

pick-below : (t : Bool) {m n k : ℕ} → m < k → n < k → cond t m n < k
pick-below true h g = h
pick-below false h g = g

pub half-below : (zone : ℕ) → half_of zone < 2
half-below zone = pick-below (leb zone F) (lit< tt) (lit< tt)

pub flank-below : (zone : ℕ) → flank_of zone < 2
flank-below zone = pick-below (eqb zone E || eqb zone G) (lit< tt) (lit< tt)

gable_column-below : (wind zone : ℕ) → gable_column wind zone < 4
unfolding gable_column
gable_column-below wind zone =
    let h = half-below zone in
    let f = flank-below zone in
    pick-below (eqb wind 0) (omega arith) (omega arith)

single_column-below : (wind zone : ℕ) → single_column wind zone < 10
unfolding single_column
single_column-below wind zone =
    let h = half-below zone in
    let f = flank-below zone in
    pick-below (eqb wind 0) (omega arith)
    (pick-below (eqb wind 45) (omega arith)
    (pick-below (eqb wind 90) (omega arith) (pick-below (eqb wind 135) (omega arith) (omega arith))))

flat_column-below : (place : ℕ) → flat_column place < 4
unfolding flat_column
flat_column-below place =
    pick-below (eqb place E) (lit< tt)
    (pick-below (eqb place F) (lit< tt) (pick-below (eqb place L1) (lit< tt) (lit< tt)))

pub roof_column-below : (kind wind place : ℕ) → roof_column kind wind place < width kind
unfolding roof_column
roof_column-below kind wind place =
    by-test (eqb kind 1)
    (λ e. let k = eqb-true kind 1 e in rw (e, ne_eqb kind 6 (λ p. omega arith)) (gable_column-below wind place))
    (λ e. by-test (eqb kind 6) (λ f. rw (e, f) (single_column-below wind place))
    (λ f. rw (e, f) (flat_column-below place)))
