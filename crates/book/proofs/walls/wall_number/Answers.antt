-- `walls::wall_number`: the rows are numbered in order.
use mathlib.Core.Path.{sym}
use Rattle.book.proofs.Tables.{wall-number}
use Rattle.book.proofs.walls.wall_number.Goals as goal

pub returns : goal.returns
returns c = sym (wall-number c.args.row c.requires)
