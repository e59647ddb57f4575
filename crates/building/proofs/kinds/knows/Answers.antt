-- `kinds::knows`: the walls' directions, and beside them a single slope's.
use mathlib.Core.Path.{◌≡◌, sym, ◌∙◌}
use Rattle.building.specs.Test.{one_of}
use Rattle.building.specs.Places.{single, wall_directions, slope_directions}
use Rattle.whole.proofs.Size.{said}
use Rattle.building.proofs.Machine.{or_here, or_there, and_here, and_there}
use Rattle.building.proofs.Places.{knows-by}
use Rattle.building.proofs.kinds.knows.Goals.{After-on_walls, After-single}
use Rattle.building.proofs.kinds.knows.Goals as goal

walls : (c : After-on_walls) → c.on_walls.result ≡ one_of wall_directions c.args.direction
walls c = said (one_of wall_directions) c.args.direction c.on_walls.ensures c.ranges.direction.sfits

slope : (c : After-single) → c.single.result ≡ single c.args.kind
slope c = said single c.args.kind c.single.ensures c.ranges.kind.sfits

pub returns-then-on_walls : goal.returns-then-on_walls
returns-then-on_walls c =
    or_here _ c.if-on_walls.true (walls (goal.at.returns-then-on_walls c).After-on_walls)
    ∙ sym (knows-by c.args.kind c.args.direction)

pub returns-then-single : goal.returns-then-single
returns-then-single c =
    let z = c.args.direction in
    or_there c.if-on_walls.false (walls (goal.at.returns-then-single c).After-on_walls)
    (and_there c.if-single.true (slope (goal.at.returns-then-single c).After-single)
    (said (one_of slope_directions) z c.on_slopes.ensures c.ranges.direction.sfits))
    ∙ sym (knows-by c.args.kind z)

pub returns-else-single : goal.returns-else-single
returns-else-single c =
    or_there c.if-on_walls.false (walls (goal.at.returns-else-single c).After-on_walls)
    (and_here _ c.if-single.false (slope (goal.at.returns-else-single c).After-single))
    ∙ sym (knows-by c.args.kind c.args.direction)
