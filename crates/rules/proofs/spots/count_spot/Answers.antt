-- `spots::count_spot`: by the definition's own tests.
use mathlib.Core.Path.{ap, ◌∙◌}
use Prim.Native.Nat.{ℕ}
use mathlib.Core.Bool.{not}
use native.Mathlib.Omega.{arith}
use lib.Dec.{eqb}
use lib.IntN.{pos}
use mir.Syntax.{w64}
use Rattle.whole.proofs.Size.{nat, returned}
use Rattle.building.specs.Test.{beyond}
use Rattle.building.specs.Fault.{ranged, first_spot}
use Rattle.rules.specs.Sections.{about}
use Rattle.rules.proofs.Spotted.{spot-or}
use Rattle.rules.proofs.spots.count_spot.Goals as goal

pub returns : goal.returns
unfolding first_spot
returns c =
    let q = c.limits_of-l.ensures in
    let year = (returned w64 c.args.year c.ranges.year.sfits).same in
    let least = (nat w64 {n = c.limits_of-l.result.least} 4294967295
    (omega (arith, c.struct_known-1.given)) tt).same ∙ ap pos q.0 in
    let most =
    (nat w64 {n = c.limits_of-l.result.most} 4294967295 (omega (arith, c.struct_known-2-1.given)) tt).same
    ∙ ap pos (q.1 ∙ ap (about c.args.s).most year) in
    let n = (returned w64 c.args.n c.ranges.n.sfits).same in
    spot-or (ap (λ (l' : ℕ). not (eqb c.args.letter l')) c.section_letter-own.ensures)
    c.ranged-3.ensures
    (spot-or (c.beyond.ensures ∙ (λ i. beyond (least i) (most i) (n i)))
    (c.ranged.ensures ∙ (λ i. ranged 2 (least i) (most i))) c.ranged-2.ensures c.first-count.ensures)
    c.first.ensures
