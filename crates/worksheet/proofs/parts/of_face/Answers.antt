-- `parts::of_face`: the sums of the job with one face.
use mathlib.Core.Path.{◌∙◌}
use native.Mathlib.Omega.{arith}
use Prim.Native.Nat.{◌<◌}
use lib.ListN.{length}
use Rattle.worksheet.proofs.OneFace.{part-reckoned}
use Rattle.worksheet.proofs.parts.of_face.Goals as goal

pub returns : goal.returns
returns c =
    let j = c.args.job in
    let l = j.faces.entry in
    let faces = c.well_formed.0.1.1.1.1.1.1.1.0 in
    let all = faces.1.1.1.0.1.0.1 in
    let room : 0 < length l = omega (arith, all) in
    c.sums_of.ensures ∙ part-reckoned j c.args.f room c.requires
