-- `spots::step_spot`: by the definition's own tests, each number read back as it is.
use mathlib.Core.Path.{ap, ap₂, ◌∙◌}
use mathlib.Core.Bool.{not}
use lib.IntN.{ℤ, pos}
use lib.Signed.{lt_z}
use mir.Syntax.{w64}
use Rattle.whole.proofs.Size.{said, returned}
use Rattle.building.specs.Test.{beyond}
use Rattle.building.specs.Fault.{ranged, first_spot}
use Rattle.rules.specs.Faults.{next_height}
use Rattle.rules.proofs.Spotted.{spot-or}
use Rattle.rules.proofs.spots.step_spot.Goals as goal

pub returns : goal.returns
unfolding first_spot
returns c =
    let q = c.struct_told-1.given in
    let z = c.args.s.height in
    let high = (returned w64 c.args.highest c.ranges.highest.sfits).same in
    let next = (returned w64 _ c.next_height.type_inv).same ∙ c.next_height.ensures ∙ ap next_height high in
    spot-or (said (beyond (pos 0) (pos 30000)) z c.beyond-2.ensures q.0.1) c.ranged-4.ensures
    (spot-or (ap not (ap₂ lt_z high (returned w64 z q.0.1).same))
    (c.ranged-3.ensures ∙ ap (λ (l : ℤ). ranged 1 l (pos 30000)) next)
    (spot-or (said (beyond (pos 1) (pos 1000)) c.args.s.factor c.beyond.ensures q.1.0.1)
    c.ranged.ensures c.ranged-2.ensures c.first-factor.ensures)
    c.first-rise.ensures)
    c.first.ensures
