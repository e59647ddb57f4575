-- The row and the block that a building has: the first, in the book's order, up to whose limits it comes.
use mathlib.Core.Path.{◌≡◌, refl, ap, ap₂, subst}
use mathlib.Core.Bool.{Bool, ◌&&◌}
use Prim.Native.Nat.{ℕ, ◌*◌, ◌≤◌, ◌<◌}
use native.Mathlib.Omega.{arith}
use lib.Dec.{lit<}
use lib.ListN.{get_or}
use Rattle.whole.proofs.First.{first_with, first-in, first-most}
use Rattle.building.specs.Ratio.{◌÷◌, up_to}
use Rattle.building.proofs.Ratios.{up_to-yes}
use Rattle.book.specs.Gable.{heights, block_of}
use Rattle.book.specs.Row.{Row, row_numbered}
use Rattle.book.specs.Walls.{Wall, no_wall, walls, wall_table, wall_row}
use Rattle.book.proofs.Tables.{SmallRow, wall-small, wall-listed}

module _ (h b : ℕ) where
  pub block-first : block_of h b ≡ first_with (up_to h b) 0 heights
  unfolding block_of
  block-first = refl

  pub block_of-most : h ≤ 6 * b → block_of h b ≤ 2
  block_of-most l =
      rw block-first (first-most (up_to h b) (0 ÷ 0) heights 0 2 (lit< tt) (up_to-yes h b 6 1 (omega arith)))

module _ (h a b : ℕ) where
  -- h/b and a/b come up to a row's limits
  abbrev pub in_row : Wall → Bool
  in_row r = up_to h b r.high && up_to a b r.long

  abbrev pub wall_index : ℕ
  wall_index = first_with in_row 0 walls

  pub wall-index : (get_or walls wall_index no_wall).row ≡ wall_row h a b
  unfolding wall_row
  wall-index = ap (λ (r : Wall). r.row) (first-in in_row no_wall walls)

  pub wall-below : h ≤ 6 * b → a ≤ 4 * b → wall_index < 6
  wall-below l m =
      let last = ap₂ ◌&&◌ (up_to-yes h b 6 1 (omega arith)) (up_to-yes a b 4 1 (omega arith)) in
      omega (arith, first-most in_row no_wall walls 0 5 (lit< tt) last)

  pub wall_row-small : SmallRow 120 (wall_row h a b)
  wall_row-small = subst (SmallRow 120) wall-index (wall-small wall_index)

  pub wall_row-listed : h ≤ 6 * b → a ≤ 4 * b → row_numbered (wall_row h a b).number wall_table ≡ wall_row h a b
  wall_row-listed l m =
      subst (λ (r : Row). row_numbered r.number wall_table ≡ r) wall-index (wall-listed wall_index (wall-below l m))
