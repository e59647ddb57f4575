-- `walls::wall_row`: the loop looks for the first row among those that are left.
use Rattle.whole.proofs.First.{Left}
use Rattle.book.specs.Walls.{no_wall, walls}
use Rattle.book.proofs.Rows.{in_row, wall_index}
use Rattle.book.proofs.walls.wall_row.Given as goal

abbrev pub invariant-loop-row : goal.invariant-loop-row
invariant-loop-row l = Left (in_row l.s.h l.s.a l.s.b) no_wall walls (wall_index l.s.h l.s.a l.s.b) l.row
