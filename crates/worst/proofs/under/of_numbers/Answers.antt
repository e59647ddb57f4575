-- `under::of_numbers` meets its contract: what has a number stands one place before it.
use mathlib.Core.Path.{◌∙◌}
use Prim.Native.Nat.{◌-◌, ◌<◌}
use native.Mathlib.Omega.{arith}
use Rattle.worst.specs.Small.{Ready}
use Rattle.worst.proofs.Accepted.{job-ready}
use Rattle.worst.proofs.FaceUnder.{under-numbered}
use Rattle.worst.proofs.under.of_numbers.Goals.{Start}
use Rattle.worst.proofs.under.of_numbers.Goals as goal

module _ (a : Start) where
  ready : Ready a.args.job
  ready = job-ready a.args.job a.requires.0

  wind : a.args.wind - 1 < a.args.job.winds.count
  wind = omega (arith, a.requires.1, a.requires.2)

  face : a.args.face - 1 < a.args.job.faces.count
  face = omega (arith, a.requires.3, a.requires.4)

pub bounds-winds-w : goal.bounds-winds-w
bounds-winds-w c =
    let at_start = (goal.at.bounds-winds-w c).Start in
    omega (arith, wind at_start, (ready at_start).winds)

pub bounds-faces-k : goal.bounds-faces-k
bounds-faces-k c =
    let at_start = (goal.at.bounds-faces-k c).Start in
    omega (arith, face at_start, (ready at_start).profiled.few)

pub of_face-requires : goal.of_face-requires
of_face-requires c =
    let at_start = (goal.at.of_face-requires c).Start in
    let met = ((ready at_start).met (c.args.wind - 1) (wind at_start)).each (c.args.face - 1) (face at_start) in (
      met.dense,
      met.slow,
      (ready at_start).factors (c.args.face - 1) (face at_start),
      λ h. ((ready at_start).profiled.profile h, (ready at_start).profiled.heights h (c.args.face - 1) (face at_start)),
    )

pub returns : goal.returns
returns c =
    c.of_face.ensures
    ∙ under-numbered c.args.job c.args.wind c.args.face c.requires.1 c.requires.2 c.requires.3 c.requires.4
