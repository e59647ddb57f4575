-- `roofs::flat_cell`: the code's cells are the printed table's.
use mathlib.Core.Path.{ap, ◌∙◌}
use lib.IntN.{pos}
use lib.ListN.{get_or}
use Rattle.book.specs.declared.roofs.Row as coded-rows
use Rattle.book.proofs.Tables.{flat-row-small}
use Rattle.book.proofs.Coded.{entry, flat-cell}
use Rattle.book.proofs.roofs.flat_cell.Goals as goal

pub returns : goal.returns
returns c =
    let a = c.args in
    let held = ap (λ (r : coded-rows.Row). get_or r.2 a.col (pos 0)) c.printed_row-r.ensures in
    let printed = flat-cell a.row a.col c.requires.0 c.requires.1 in
    (entry (held ∙ printed) ((flat-row-small a.row).at a.col) tt).same
