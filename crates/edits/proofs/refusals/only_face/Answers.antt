-- `refusals::only_face`: by the number of faces.
use borrow.Author.Tests.{lt-ltb, le-ltb}
use Rattle.edits.proofs.refusals.only_face.Goals as goal

pub returns-then-j-gt1 : goal.returns-then-j-gt1
returns-then-j-gt1 c = rw (lt-ltb 1 _ c.if-j-gt1.true)

pub returns : goal.returns
returns c = rw (le-ltb 1 _ c.if-j-gt1.false)
