-- `walls::wall_cells`: the code's cells are the printed table's.
use mathlib.Core.Path.{ap}
use borrow.Author.Tests.{eq-eqb, ne_eqb}
use Rattle.book.specs.declared.walls.Wall as coded-walls
use Rattle.book.proofs.walls.wall_cells.Goals as goal

pub returns-then-wind-eq0 : goal.returns-then-wind-eq0
returns-then-wind-eq0 c =
    rw (eq-eqb c.args.wind 0 c.if-wind-eq0.true)
    (ap (λ (r : coded-walls.Wall). r.4) c.printed_wall-w.ensures)

pub returns : goal.returns
returns c =
    rw (ne_eqb c.args.wind 0 c.if-wind-eq0.false)
    (ap (λ (r : coded-walls.Wall). r.5) c.printed_wall-w.ensures)
