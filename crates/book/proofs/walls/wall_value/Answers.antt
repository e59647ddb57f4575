-- `walls::wall_value`: on a row itself the value is the row's.
use mathlib.Core.Path.{sym, ◌∙◌, ap, subst}
use Prim.Native.Nat.{◌≤◌}
use lib.IntN.{ℤ, pos, nat_abs, ◌*ℤ◌}
use mir.Syntax.{w16, w32}
use Rattle.whole.proofs.Size.{Num, fit, param≤, num, back, ◌⊗◌}
use Rattle.book.specs.Walls.{no_wall, walls}
use lib.ListN.{get_or}
use Rattle.book.proofs.Between.{value_on}
use Rattle.book.proofs.Tables.{wall-small}
use Rattle.book.proofs.walls.wall_value.Goals.{After-wall_cell}
use Rattle.book.proofs.walls.wall_value.Goals as goal

abbrev cell : After-wall_cell → Num
cell c =
    let a = c.args in
    param≤ {w = w16} {z = c.wall_cell.result} {k = 120} (record { sfits = c.wall_cell.type_inv })
    (subst (λ (z : ℤ). nat_abs z ≤ 120) (sym c.wall_cell.ensures) ((wall-small a.row).at a.col))

abbrev tenfold : After-wall_cell → Num
tenfold c = back w32 (cell c) tt ⊗ num (pos 10)

pub overflow_cast-result : goal.overflow_cast-result
overflow_cast-result c = fit (cell c) tt

pub overflow_mul-result : goal.overflow_mul-result
overflow_mul-result c = fit (tenfold c) tt

pub returns : goal.returns
returns c =
    let a = c.args in
    (back w32 (tenfold c) tt).same
    ∙ ap (λ (z : ℤ). z *ℤ pos 10) c.wall_cell.ensures
    ∙ sym (value_on (get_or walls a.row no_wall).row a.col)
