-- `roofs::single_cell`: the code's cells are the printed table's.
use mathlib.Core.Path.{ap, ◌∙◌}
use lib.IntN.{pos}
use lib.ListN.{get_or}
use Rattle.book.specs.declared.roofs.Slope as coded-slopes
use Rattle.book.proofs.Tables.{single-row-small}
use Rattle.book.proofs.Coded.{entry, single-cell}
use Rattle.book.proofs.roofs.single_cell.Goals as goal

pub returns : goal.returns
returns c =
    let a = c.args in
    let held = ap (λ (r : coded-slopes.Slope). get_or r.1 a.col (pos 0)) c.printed_slope-r.ensures in
    let printed = single-cell a.row a.col c.requires.0 c.requires.1 in
    (entry (held ∙ printed) ((single-row-small a.row).at a.col) tt).same
