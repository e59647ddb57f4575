-- `walls::wall_cell`: the code's cells are the printed table's.
use mathlib.Core.Path.{◌≡◌, ap, ◌∙◌}
use native.Mathlib.Omega.{arith}
use lib.IntN.{ℤ, pos}
use lib.ListN.{get_or}
use Prim.Native.Nat.{◌-◌}
use Rattle.whole.proofs.Size.{Num}
use Rattle.book.specs.Row.{hundredths}
use Rattle.book.specs.Walls.{Wall, no_wall, walls}
use Rattle.book.specs.Held.{coded_wall}
use Rattle.book.specs.declared.walls.Wall as coded-walls
use Rattle.book.proofs.Tables.{wall-small}
use Rattle.book.proofs.Coded.{entry, wind-0, wind-90, local}
use Rattle.book.proofs.walls.wall_cell.Goals.{After-printed_wall-w}
use Rattle.book.proofs.walls.wall_cell.Goals as goal

module _ (d : After-printed_wall-w) where
  abbrev printed : Wall
  printed = get_or walls d.args.row no_wall

  -- a number of the row's, whatever of the row the code reads it from
  abbrev read : (f : coded-walls.Wall → ℤ) → f (coded_wall printed) ≡ hundredths printed.row d.args.col
      → Num
  read f e =
      entry (ap f d.printed_wall-w.ensures ∙ e) ((wall-small d.args.row).at d.args.col) tt

pub returns-then-col-lt4 : goal.returns-then-col-lt4
returns-then-col-lt4 c =
    let at_printed_wall_w = (goal.at.returns-then-col-lt4 c).After-printed_wall-w in
    let col = c.args.col in
    (read at_printed_wall_w (λ (w : coded-walls.Wall). get_or w.4 col (pos 0)) (wind-0
    (printed at_printed_wall_w) col (omega arith))).same

pub returns-then-col-lt8 : goal.returns-then-col-lt8
returns-then-col-lt8 c =
    let at_printed_wall_w = (goal.at.returns-then-col-lt8 c).After-printed_wall-w in
    let col = c.args.col in
    (read at_printed_wall_w (λ (w : coded-walls.Wall). get_or w.5 (col - 4) (pos 0))
    (wind-90 (printed at_printed_wall_w) col (omega arith) (omega arith))).same

pub returns : goal.returns
returns c =
    let at_printed_wall_w = (goal.at.returns c).After-printed_wall-w in
    let col = c.args.col in
    (read at_printed_wall_w (λ (w : coded-walls.Wall). w.6) (local (printed at_printed_wall_w) col (omega arith))).same
