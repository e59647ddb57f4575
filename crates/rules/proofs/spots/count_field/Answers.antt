-- `spots::count_field`: the fields in their order.
use mathlib.Core.Path.{refl, ap, ◌∙◌}
use native.Mathlib.Omega.{arith}
use lib.IntN.{pos}
use mir.Syntax.{w64}
use Rattle.whole.proofs.Size.{nat, returned}
use Rattle.building.specs.Fault.{ranged, spot_of}
use Rattle.rules.specs.Sections.{about}
use Rattle.rules.proofs.Spotted.{at-or}
use Rattle.rules.proofs.spots.count_field.Goals as goal

pub returns : goal.returns
unfolding spot_of
returns c letter n =
    let q = c.limits_of-l.ensures in
    let year = (returned w64 c.args.year c.ranges.year.sfits).same in
    let least =
    (nat w64 {n = c.limits_of-l.result.least} 4294967295 (omega (arith, c.struct_known-1.given)) tt).same
    ∙ ap pos q.0 in
    let most =
    (nat w64 {n = c.limits_of-l.result.most} 4294967295 (omega (arith, c.struct_known-2-1.given)) tt).same
    ∙ ap pos (q.1 ∙ ap (about c.args.s).most year) in
    let n = c.args.field in
    at-or n 1 refl (at-or n 2 (λ i. ranged 2 (least i) (most i)) c.ranged-none.ensures c.at.ensures)
    c.at-2.ensures
