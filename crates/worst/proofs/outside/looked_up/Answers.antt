-- `outside::looked_up` meets its contract: the walls' zones begin at A, and else the roof's at E.
use mathlib.Core.Path.{◌≡◌, sym, ap, ◌∙◌}
use Prim.Native.Nat.{ℕ}
use Rattle.whole.proofs.Size.{said}
use Rattle.building.specs.Places.{A, E}
use Rattle.book.specs.Zones.{four_from, wall_four, roof_four}
use Rattle.worst.specs.Table.{Begins, walls, roof}
use Rattle.worst.proofs.outside.looked_up.Goals as goal

at-roof : (zone : ℕ) → Begins zone → (zone ≡ A → ⊥) → zone ≡ E
at-roof zone (walls e) n = absurd (n e)
at-roof zone (roof e) n = e

pub returns-then-from-eq65 : goal.returns-then-from-eq65
returns-then-from-eq65 c =
    let a = c.args in
    said (wall_four a.d.year a.d.building) a.direction c.wall_zones.ensures c.ranges.direction.sfits
    ∙ ap (four_from a.d.year a.d.building a.direction) (sym c.if-from-eq65.true)

pub returns : goal.returns
returns c =
    let a = c.args in
    said (roof_four a.d.year a.d.building) a.direction c.roof_zones.ensures c.ranges.direction.sfits
    ∙ ap (four_from a.d.year a.d.building a.direction) (sym (at-roof a.from c.requires c.if-from-eq65.false))
