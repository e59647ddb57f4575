-- `zones::roof_half`: the two tests in their order.
use mathlib.Core.Path.{◌≡◌, sym, ap, ◌∙◌}
use Prim.Native.Nat.{◌<◌}
use native.Mathlib.Omega.{arith}
use borrow.Author.Tests.{eq-eqb, ne_eqb}
use lib.IntN.{nat_abs}
use Rattle.whole.proofs.Size.{said, said₂}
use Rattle.building.specs.Places.{knows}
use Rattle.book.specs.Zones.{roof_on}
use Rattle.book.proofs.zones.roof_half.Goals.{After-knows}
use Rattle.book.proofs.zones.roof_half.Goals as goal

known : (c : After-knows)
    → let a = c.args in c.knows.result ≡ knows a.kind a.direction
known c =
    said₂ knows c.args.kind c.args.direction c.knows.ensures c.ranges.kind.sfits
    c.ranges.direction.sfits

pub returns-then-s-eq0 : goal.returns-then-s-eq0
returns-then-s-eq0 c =
    rw (eq-eqb c.args.s.kind 0 c.if-s-eq0.true) c.no_zones.ensures

pub roof-requires : goal.roof-requires
roof-requires c =
    let some : 0 < c.args.s.kind = omega (arith, c.if-s-eq0.false) in record {
      sizes_in_order = c.requires;
      kind_nonzero = some;
    }

pub returns-then-knows : goal.returns-then-knows
returns-then-knows c =
    let at_knows = (goal.at.returns-then-knows c).After-knows in
    let wind = said nat_abs c.args.direction c.magnitude.ensures c.ranges.direction.sfits in
    rw (ne_eqb c.args.s.kind 0 c.if-s-eq0.false, sym (known at_knows) ∙ c.if-knows.true)
    (c.roof.ensures ∙ ap (roof_on c.args.s) wind)

pub returns : goal.returns
returns c =
    let at_knows = (goal.at.returns c).After-knows in
    rw (ne_eqb c.args.s.kind 0 c.if-s-eq0.false, sym (known at_knows) ∙ c.if-knows.false) c.no_zones-2.ensures
