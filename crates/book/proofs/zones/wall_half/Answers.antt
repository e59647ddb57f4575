-- `zones::wall_half`: by the definition's own test.
use mathlib.Core.Path.{◌≡◌, sym, ap, ◌∙◌}
use lib.IntN.{nat_abs}
use Rattle.whole.proofs.Size.{said}
use Rattle.building.specs.Test.{one_of}
use Rattle.building.specs.Places.{wall_directions}
use Rattle.book.specs.Zones.{walls_on}
use Rattle.book.proofs.zones.wall_half.Goals.{After-on_walls}
use Rattle.book.proofs.zones.wall_half.Goals as goal

listed : (c : After-on_walls) → c.on_walls.result ≡ one_of wall_directions c.args.direction
listed c =
    said (one_of wall_directions) c.args.direction c.on_walls.ensures c.ranges.direction.sfits

pub returns-then-on_walls : goal.returns-then-on_walls
returns-then-on_walls c =
    let at_on_walls = (goal.at.returns-then-on_walls c).After-on_walls in
    let wind = said nat_abs c.args.direction c.magnitude.ensures c.ranges.direction.sfits in
    rw (sym (listed at_on_walls) ∙ c.if-on_walls.true) (c.walls.ensures ∙ ap (walls_on c.args.s) wind)

pub returns : goal.returns
returns c = rw (sym (listed (goal.at.returns c).After-on_walls) ∙ c.if-on_walls.false) c.no_zones.ensures
