-- The gable's table, 3.2.2.2.2: every value is a multiple of ten hundredths, its slopes are 5, 10 or 15 degrees apart,
-- and so no half comes up wherever x lies in it.
use mathlib.Core.Path.{◌≡◌, refl, subst}
use mathlib.Core.Bool.{Bool, true, ◌||◌}
use mathlib.Core.Logic.{⊎_elim}
use mathlib.Core.List.{List, [], ◌∷◌}
use Prim.Native.Nat.{ℕ, ◌+◌, ◌-◌, ◌*◌, ◌%◌, ◌≤◌, ◌<◌}
use native.Mathlib.Nat.{dvd_of_mod-eq-zero}
use native.Mathlib.Omega.{arith}
use lib.Dec.{T, eqb, lit<}
use lib.IntN.{ℤ, pos, nat_abs}
use lib.ListN.{length}
use borrow.Author.Tests.{eqb-true}
use Rattle.whole.specs.Lists.{Every}
use Rattle.whole.proofs.Lowest.{whole-some}
use Rattle.whole.proofs.Table.{both, both_left, both_right, all, all-at}
use Rattle.whole.proofs.Tests.{is_true, or-true}
use Rattle.whole.proofs.Lists.{every-by, every-member}
use Rattle.book.specs.Row.{Row, hundredths, Standing}
use Rattle.book.specs.Line.{Way, way_in}
use Rattle.book.specs.Interpolated.{Neighbours, first, later, LiesBetween, LiesAt}
use Rattle.book.specs.Interpolated.{alone, up_to_first, on_row, between_rows}
use Rattle.book.specs.NoHalf.{NoHalf, NoHalfOn, InTens, DegreesApart, five, ten, fifteen}
use Rattle.book.specs.Gable.{low, middle, tall, gable_parts}
use Rattle.book.proofs.Neighbours.{lower-among, upper-among}
use Rattle.book.proofs.Walked.{last_at, lies-walked}
use Rattle.book.proofs.Tables.{passed}
use Rattle.book.proofs.NoHalf.{no-half, no-half-on}

-- ---- the two tests of a block

abbrev in_tens : ℤ → Bool
in_tens z = eqb (nat_abs z % 10) 0

tens-row : (r : Row) → T (all in_tens r.cells) → InTens r
tens-row r t =
    record {
      at = λ col.
          dvd_of_mod-eq-zero 10 (eqb-true _ 0 (is_true _ (all-at in_tens r.cells (pos 0) tt t col)));
    }

abbrev apart : Standing → Standing → Bool
apart r s = eqb s.at (r.at + 50) || (eqb s.at (r.at + 100) || eqb s.at (r.at + 150))

apart_by : (r s : Standing) → T (apart r s) → DegreesApart r s
apart_by r s t =
    ⊎_elim (λ e. five (eqb-true _ _ e))
    (λ f. ⊎_elim (λ e. ten (eqb-true _ _ e)) (λ e. fifteen (eqb-true _ _ e)) (or-true _ _ f))
    (or-true (eqb s.at (r.at + 50)) _ (is_true _ t))

apart_some : {lower upper : Standing} → DegreesApart lower upper → 0 < upper.at - lower.at
apart_some (five e) = omega arith
apart_some (ten e) = omega arith
apart_some (fifteen e) = omega arith

abbrev all_apart : List Standing → Bool
all_apart [] = true
all_apart (r ∷ []) = true
all_apart (r ∷ s ∷ rows) = both (apart r s) (all_apart (s ∷ rows))

neighbours-apart : {lower upper : Standing} (rows : List Standing) → T (all_apart rows) → Neighbours rows lower upper
    → DegreesApart lower upper
neighbours-apart (r ∷ s ∷ rows) t first = apart_by r s (both_left (apart r s) (all_apart (s ∷ rows)) t)
neighbours-apart (r ∷ s ∷ rows) t (later n) =
    neighbours-apart (s ∷ rows) (both_right (apart r s) (all_apart (s ∷ rows)) t) n
neighbours-apart {lower = lower} {upper = upper} [] t n = elim n [ ]
neighbours-apart {lower = lower} {upper = upper} (r ∷ []) t n = elim n [ ]

-- ---- a block that passes both

record Sloped (rows : List Standing) : Type 0 where
  some : 0 < length rows
  ends : last_at rows ≡ 600
  tens : Every (λ r. InTens r.row) rows
  apart : (lower upper : Standing) → Neighbours rows lower upper → DegreesApart lower upper

sloped : (rows : List Standing) → 0 < length rows → last_at rows ≡ 600
    → T (all (λ (r : Standing). all in_tens r.row.cells) rows) → T (all_apart rows) → Sloped rows
sloped rows some ends t u =
    record {
      some = some;
      ends = ends;
      tens = every-by (λ (r : Standing) h. tens-row r.row h) rows
          (passed (λ (r : Standing). all in_tens r.row.cells) rows t);
      apart = λ lower upper n. neighbours-apart rows u n;
    }

blocks : Every Sloped gable_parts
blocks = (
  sloped low (lit< tt) refl tt tt,
  (sloped middle (lit< tt) refl tt tt, (sloped tall (lit< tt) refl tt tt, tt)),
)

module _ (rows : List Standing) (block : Sloped rows) where
  -- part/whole is x tenths of a degree of the way between two neighbours
  between-no-half : (lower upper : Standing) → Neighbours rows lower upper → (x part whole : ℕ) → 0 < whole
      → part * (upper.at - lower.at) ≡ x * whole → (col : ℕ)
      → NoHalf (hundredths lower.row col) (hundredths upper.row col) part whole
  between-no-half lower upper n =
      no-half lower upper (every-member (λ (r : Standing). InTens r.row) rows block.tens (lower-among n))
      (every-member (λ (r : Standing). InTens r.row) rows block.tens (upper-among n))
      (block.apart lower upper n)

  distance-no-half : (x : ℕ) (lower upper : Standing) → LiesBetween rows x 1 lower upper → (col : ℕ)
      → NoHalf (hundredths lower.row col) (hundredths upper.row col) (x - lower.at) (upper.at - lower.at)
  distance-no-half x lower upper b =
      let far = apart_some (block.apart lower upper b.next) in
      between-no-half lower upper b.next (x - lower.at) (x - lower.at) (upper.at - lower.at) far refl

  lies-no-half : (x : ℕ) (w : Way) → LiesAt rows x 1 w → NoHalfOn w
  lies-no-half x w (alone {r} e) = no-half-on r.row
  lies-no-half x w (up_to_first {r} e h) = no-half-on r.row
  lies-no-half x w (on_row {r} m e) = no-half-on r.row
  lies-no-half x w (between_rows {lower} {upper} {part} {whole} n from to low) =
      let part_of = x - lower.at * 1 in
      let y = upper.at * 1 - lower.at * 1 in
      let distance : y ≡ upper.at - lower.at = omega arith in
      let same = subst (λ (d : ℕ). part * d ≡ part_of * whole) distance low.same in
      between-no-half lower upper n part_of part whole
      (whole-some part whole low.lowest part_of y (omega arith) low.same) same

-- from 0 to 60 degrees x lies somewhere in it
lies_in : (rows : List Standing) → Sloped rows → (x : ℕ) → x ≤ 600 → LiesAt rows x 1 (way_in rows x 1)
lies_in [] b x h = absurd (omega (arith, b.some))
lies_in (r ∷ rows) b x h =
    lies-walked x 1 (lit< tt) r rows (omega (arith, b.ends))

abbrev pub Throughout : List Standing → Type 0
Throughout rows = (x : ℕ) → x ≤ 600 → (w : Way) × LiesAt rows x 1 w × NoHalfOn w

throughout : (rows : List Standing) → Sloped rows → Throughout rows
throughout rows b x h = let l = lies_in rows b x h in (way_in rows x 1, l, lies-no-half rows b x (way_in rows x 1) l)

-- ---- the whole table

-- "Every value in table 3.2.2.2.2 is a multiple of ten hundredths"
pub gable-in-tens : Every (λ rows. Every (λ r. InTens r.row) rows) gable_parts
gable-in-tens = every-by (λ rows (b : Sloped rows). b.tens) gable_parts blocks

-- "and its slopes are 5, 10 or 15 degrees apart"
pub gable-apart : Every (λ rows. (lower upper : Standing) → Neighbours rows lower upper → DegreesApart lower upper)
    gable_parts
gable-apart = every-by (λ rows (b : Sloped rows). b.apart) gable_parts blocks

-- "so at tenths of a degree a half should never come up": twice what is left is not the distance between the rows
pub gable-distances : Every
    (λ rows. (x : ℕ) (lower upper : Standing) → LiesBetween rows x 1 lower upper → (col : ℕ)
    → NoHalf (hundredths lower.row col) (hundredths upper.row col) (x - lower.at) (upper.at - lower.at))
    gable_parts
gable-distances = every-by distance-no-half gable_parts blocks

-- nor with the fraction in lowest terms, as an answer cites it
pub gable-no-half : Every (λ rows. (x : ℕ) (w : Way) → LiesAt rows x 1 w → NoHalfOn w) gable_parts
gable-no-half = every-by lies-no-half gable_parts blocks

-- and every slope from 0 to 60 degrees lies somewhere
pub gable-slopes : Every Throughout gable_parts
gable-slopes = every-by throughout gable_parts blocks
