-- `zones::walls`: each zone has its cell of the walls' row.
-- cell k, as it is handed on
use mathlib.Core.Path.{◌≡◌, ap, ◌∙◌}
use Prim.Native.Nat.{ℕ}
use borrow.Author.Rules.{rules}
use lib.Dec.{lit<}
use lib.IntN.{ℤ, pos}
use lib.ListN.{get_or}
use mathlib.Core.List.{List}
use mir.Syntax.{w16}
use mir.Val.{SFits, to_z, of_z}
use mir.ValLaws.{to_z-of_z}
use Rattle.book.specs.Row.{Row}
use Rattle.book.specs.Walls.{wall_row}
use Rattle.book.specs.Held.{wall_cells}
use Rattle.book.proofs.FourZones.{wall-ends}
use Rattle.book.proofs.zones.walls.Goals.{After-wall_cells-cells}
use Rattle.book.proofs.zones.walls.Goals as goal

cell : (c : After-wall_cells-cells) (k : ℕ) → SFits w16 (get_or c.wall_cells-cells.result k (pos 0))
    → let a = c.args in
    to_z w16 (of_z w16 (get_or c.wall_cells-cells.result k (pos 0)))
    ≡ get_or (wall_cells (wall_row a.s.h a.s.a a.s.b) a.wind) k (pos 0)
cell c k f =
    to_z-of_z w16 _ f
    ∙ ap (λ (l : List ℤ). get_or l k (pos 0))
    (c.wall_cells-cells.ensures ∙ ap (λ (q : Row). wall_cells q c.args.wind) c.wall_row.ensures.1)

pub returns : goal.returns
returns c =
    let at_wall_cells_cells = (goal.at.returns c).After-wall_cells-cells in
    let a = c.args in
    let f0 : SFits w16 (get_or c.wall_cells-cells.result 0 (pos 0)) = search rules in
    let f1 : SFits w16 (get_or c.wall_cells-cells.result 1 (pos 0)) = search rules in
    let f2 : SFits w16 (get_or c.wall_cells-cells.result 2 (pos 0)) = search rules in
    let f3 : SFits w16 (get_or c.wall_cells-cells.result 3 (pos 0)) = search rules in
    λ j. record {
      first = (c.of_cell.ensures ∙ wall-ends a.s a.wind 0 (lit< tt) _ (cell at_wall_cells_cells 0 f0)) j;
      second = (c.of_cell-2.ensures ∙ wall-ends a.s a.wind 1 (lit< tt) _ (cell at_wall_cells_cells 1 f1)) j;
      third = (c.of_cell-3.ensures ∙ wall-ends a.s a.wind 2 (lit< tt) _ (cell at_wall_cells_cells 2 f2)) j;
      fourth = (c.of_cell-4.ensures ∙ wall-ends a.s a.wind 3 (lit< tt) _ (cell at_wall_cells_cells 3 f3)) j;
    }
