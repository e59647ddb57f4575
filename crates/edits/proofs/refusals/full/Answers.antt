-- `refusals::full`: by the number of faces, and what its year may have.
use mathlib.Core.Path.{◌≡◌}
use native.Mathlib.Omega.{arith}
use borrow.Author.Tests.{lt-ltb, le-ltb}
use Rattle.whole.proofs.Size.{said}
use Rattle.building.specs.Year.{face_limit}
use Rattle.edits.proofs.refusals.full.Goals.{After-face_limit}
use Rattle.edits.proofs.refusals.full.Goals as goal

limit : (c : After-face_limit) → c.face_limit.result ≡ face_limit c.args.j.year
limit c =
    said face_limit c.args.j.year c.face_limit.ensures c.struct_told-1.given.0.1

pub returns-then-j-face_limit : goal.returns-then-j-face_limit
returns-then-j-face_limit c =
    let at_face_limit = (goal.at.returns-then-j-face_limit c).After-face_limit in
    let j = c.args.j in
    rw (lt-ltb j.faces.count (face_limit j.year) (omega (arith, limit at_face_limit, c.if-j-face_limit.true)))

pub returns : goal.returns
returns c =
    let at_face_limit = (goal.at.returns c).After-face_limit in
    let j = c.args.j in
    rw (le-ltb j.faces.count (face_limit j.year) (omega (arith, limit at_face_limit, c.if-j-face_limit.false)))
