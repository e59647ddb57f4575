-- `aral_replace`: the face's number is read back as it is.
use lib.IntN.{ℤ}
use Rattle.whole.proofs.Size.{said}
use Rattle.edits.specs.Edits.{Replace}
use Rattle.worksheet.specs.Worksheet.{edited}
use Rattle.aralimogga.proofs.aral_replace.Goals as goal

pub returns : goal.returns
returns c =
    said (λ (k : ℤ). edited (Replace k c.args.f) c.args.w) c.args.face c.replace.ensures
    c.ranges.face.sfits
