-- An answer can be worked out again from the rows that it cites.
use mathlib.Core.Path.{◌≡◌}
use mathlib.Core.Bool.{false}
use mathlib.Core.List.{List}
use Prim.Native.Nat.{ℕ, ◌<◌}
use lib.Dec.{lit<}
use lib.IntN.{neg_ℤ}
use Rattle.whole.proofs.Tests.{by-test}
use Rattle.building.specs.declared.Sizes.{Sizes}
use Rattle.building.specs.Order.{SizesInOrder}
use Rattle.building.specs.Places.{wall_place}
use Rattle.book.specs.declared.Values.TheVariants.{One, Two}
use Rattle.book.specs.Row.{Row, row_numbered}
use Rattle.book.specs.Line.{Way, value_at}
use Rattle.book.specs.Walls.{wall_table, wall_way}
use Rattle.book.specs.Roofs.{roof_table, roof_way}
use Rattle.book.specs.Answer.{cites}
use Rattle.book.specs.Question.{wall_column, roof_column, two_signs, coefficient_of}
use Rattle.book.specs.ByHand.{table_for, column_for, ByHand}
use Rattle.book.proofs.Interpolated.{value-near}
use Rattle.book.proofs.Rows.{wall_row-listed}
use Rattle.book.proofs.Roofed.{way-is, rows-listed}
use Rattle.book.proofs.Answers.{on-wall, on-f, on_one}

-- a way whose rows the table lists under their numbers
module _ (table : List Row) (w : Way) (col : ℕ) (some : 0 < w.whole)
    (lower : row_numbered w.lower.number table ≡ w.lower)
    (upper : row_numbered w.upper.number table ≡ w.upper) where
  one-redone : ByHand table col (cites (One (value_at w col)) w)
  one-redone = rw (lower, upper) (value-near w col some)

  both-redone : ByHand table col (cites (Two (value_at w col) (neg_ℤ (value_at w col))) w)
  both-redone = rw (lower, upper) (value-near w col some)

module _ (s : Sizes) (o : SizesInOrder s) (wind place : ℕ) where
  -- for a place that is on the building
  pub redone : (wall_place place ≡ false → 0 < s.kind)
      → ByHand (table_for s place) (column_for s wind place) (coefficient_of s wind place)
  redone roofed =
      by-test (wall_place place)
      (λ w. let l = wall_row-listed s.h s.a s.b o.h-over-b o.a-over-b in
      rw (on-wall s wind place w, w) (one-redone wall_table (wall_way s) (wall_column wind place) (lit< tt) l l))
      (λ w. let l = rows-listed s o (roofed w) in
      let some = (way-is s).some in
      let table = roof_table s.kind in
      let col = roof_column s.kind wind place in
      by-test (two_signs s.kind place)
      (λ e.
      rw (on-f s wind place w e, w) (both-redone table (roof_way s) col some l.0.found l.1.found))
      (λ e.
      rw (on_one s wind place w e, w) (one-redone table (roof_way s) col some l.0.found l.1.found)))
