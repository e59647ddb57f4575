-- `aral_take_out`: the face's number is read back as it is.
use lib.IntN.{ℤ}
use Rattle.whole.proofs.Size.{said}
use Rattle.edits.specs.Edits.{TakeOut}
use Rattle.worksheet.specs.Worksheet.{edited}
use Rattle.aralimogga.proofs.aral_take_out.Goals as goal

pub returns : goal.returns
returns c =
    said (λ (k : ℤ). edited (TakeOut k) c.args.w) c.args.face c.take_out.ensures c.ranges.face.sfits
