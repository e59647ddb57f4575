-- `unkept_replace`: the face's number is read back as it is.
use lib.IntN.{ℤ}
use Rattle.whole.proofs.Size.{said}
use Rattle.edits.specs.Edits.{Replace, edited_job}
use Rattle.unkept.proofs.unkept_replace.Goals as goal

pub returns : goal.returns
returns c =
    said (λ (k : ℤ). edited_job (Replace k c.args.f) c.args.j) c.args.face c.replace.ensures
    c.ranges.face.sfits
