-- `faces::put` meets its contract: there is room, or there is none.
use borrow.Author.Tests.{lt-ltb, le-ltb}
use Rattle.job.specs.Carried.{most_faces}
use Rattle.column.proofs.faces.put.Goals as goal

pub returns-then-count-lt-ROOM : goal.returns-then-count-lt-ROOM
returns-then-count-lt-ROOM c = rw (lt-ltb c.args.faces.count most_faces c.if-count-lt-ROOM.true)

pub returns : goal.returns
returns c = rw (le-ltb c.args.faces.count most_faces c.if-count-lt-ROOM.false)
