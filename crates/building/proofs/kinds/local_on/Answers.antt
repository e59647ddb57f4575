-- `kinds::local_on`: the definition's tests, put together as it puts them.
use mathlib.Core.Path.{◌≡◌, refl}
use borrow.Author.Tests.{eq-eqb, ne_eqb}
use Rattle.building.specs.Places.{flat, local_on, wall_local, L1}
use Rattle.whole.proofs.Size.{said}
use Rattle.building.proofs.Machine.{or_here, or_there, and_here, and_there}
use Rattle.building.proofs.kinds.local_on.Goals.{After-flat}
use Rattle.building.proofs.kinds.local_on.Goals as goal

level : (c : After-flat) → c.flat.result ≡ flat c.args.kind
level c = said flat c.args.kind c.flat.ensures c.ranges.kind.sfits

pub returns-then-place-eq119 : goal.returns-then-place-eq119
unfolding local_on
returns-then-place-eq119 c = or_here _ (eq-eqb c.args.place wall_local c.if-place-eq119.true) refl

pub returns-then-place-eq49 : goal.returns-then-place-eq49
unfolding local_on
returns-then-place-eq49 c =
    let p = c.args.place in
    or_there (ne_eqb p wall_local c.if-place-eq119.false) refl
    (and_there c.if-flat.true (level (goal.at.returns-then-place-eq49 c).After-flat)
    (or_here _ (eq-eqb p L1 c.if-place-eq49.true) refl))

pub returns-else-place-eq49 : goal.returns-else-place-eq49
unfolding local_on
returns-else-place-eq49 c =
    let p = c.args.place in
    or_there (ne_eqb p wall_local c.if-place-eq119.false) refl
    (and_there c.if-flat.true (level (goal.at.returns-else-place-eq49 c).After-flat)
    (or_there (ne_eqb p L1 c.if-place-eq49.false) refl refl))

pub returns-else-flat : goal.returns-else-flat
unfolding local_on
returns-else-flat c =
    or_there (ne_eqb c.args.place wall_local c.if-place-eq119.false) refl
    (and_here _ c.if-flat.false (level (goal.at.returns-else-flat c).After-flat))
