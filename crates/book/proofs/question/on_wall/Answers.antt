-- `question::on_wall`: on the row itself.
use mathlib.Core.Path.{ap, ap₂, ◌∙◌}
use lib.IntN.{ℤ}
use mir.Syntax.{w32}
use Rattle.whole.proofs.Size.{returned}
use Rattle.book.specs.declared.line.Spot.{Spot}
use Rattle.book.specs.declared.Values.TheVariants.{One}
use Rattle.book.specs.Row.{Row}
use Rattle.book.specs.Line.{on, value_at}
use Rattle.book.specs.Spot.{row_spot, cites_at}
use Rattle.book.proofs.question.on_wall.Goals as goal

pub returns : goal.returns
returns c =
    let col = c.args.col in
    let row = c.wall_row-row.ensures.1 in
    let same = (returned w32 c.wall_value.result c.wall_value.type_inv).same in
    let value = ap (λ (q : Row). value_at (on q) col) row in
    let number = ap (λ (q : Row). q.number) row in
    c.cited.ensures
    ∙ ap₂ (λ (z : ℤ) (w : Spot). cites_at (One z) w) (same ∙ c.wall_value.ensures ∙ value)
    (c.on_row.ensures ∙ ap row_spot (c.wall_number.ensures ∙ number))
