-- `kinds::place_on`: the definition's tests, put together as it puts them.
use mathlib.Core.Path.{◌≡◌, ap, ◌∙◌}
use mathlib.Core.Bool.{not, ◌||◌}
use lib.IntN.{ℤ}
use Rattle.building.specs.Test.{one_of}
use Rattle.building.specs.Places.{zone_on, local_on, wall_directions, place_on}
use Rattle.whole.proofs.Size.{said}
use Rattle.building.proofs.Machine.{or_here, or_there, and_here, and_there}
use Rattle.building.proofs.kinds.place_on.Goals.{then-zone_on, else-zone_on}
use Rattle.building.proofs.kinds.place_on.Goals as goal

pub returns-then-not-wall_place : goal.returns-then-not-wall_place
unfolding place_on
returns-then-not-wall_place c =
    let a = c.args in
    let f = c.ranges.kind.sfits in
    let zone = said (λ (n : ℤ). zone_on n a.place) a.kind c.zone_on.ensures f in
    let there : c.if-zone_on.value ≡ (zone_on a.kind a.place || local_on a.kind a.place) =
    elim c.if-zone_on.branch [
      | then-zone_on w ↦ w.value-is ∙ or_here _ w.if-zone_on.true zone
      | else-zone_on w ↦ w.value-is ∙ or_there w.if-zone_on.false zone
          (said (λ (n : ℤ). local_on n a.place) a.kind w.local_on.ensures f)
    ] in
    and_there c.if-local_on.true there (or_here _ (ap not c.if-not-wall_place.true) (ap not c.wall_place.ensures))

pub returns-else-not-wall_place : goal.returns-else-not-wall_place
unfolding place_on
returns-else-not-wall_place c =
    let a = c.args in
    let f = c.ranges.kind.sfits in
    let zone = said (λ (n : ℤ). zone_on n a.place) a.kind c.zone_on.ensures f in
    let there : c.if-zone_on.value ≡ (zone_on a.kind a.place || local_on a.kind a.place) =
    elim c.if-zone_on.branch [
      | then-zone_on w ↦ w.value-is ∙ or_here _ w.if-zone_on.true zone
      | else-zone_on w ↦ w.value-is ∙ or_there w.if-zone_on.false zone
          (said (λ (n : ℤ). local_on n a.place) a.kind w.local_on.ensures f)
    ] in
    and_there c.if-local_on.true there
    (or_there (ap not c.if-not-wall_place.false) (ap not c.wall_place.ensures)
    (said (one_of wall_directions) a.direction c.on_walls.ensures c.ranges.direction.sfits))

pub returns-else-local_on : goal.returns-else-local_on
unfolding place_on
returns-else-local_on c =
    let a = c.args in
    let f = c.ranges.kind.sfits in
    let zone = said (λ (n : ℤ). zone_on n a.place) a.kind c.zone_on.ensures f in
    let there : c.if-zone_on.value ≡ (zone_on a.kind a.place || local_on a.kind a.place) =
    elim c.if-zone_on.branch [
      | then-zone_on w ↦ w.value-is ∙ or_here _ w.if-zone_on.true zone
      | else-zone_on w ↦ w.value-is ∙ or_there w.if-zone_on.false zone
          (said (λ (n : ℤ). local_on n a.place) a.kind w.local_on.ensures f)
    ] in
    and_here _ c.if-local_on.false there
