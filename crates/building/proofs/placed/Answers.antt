-- `placed`: the two tests in their order, each said of the numbers as they are.
use mathlib.Core.Path.{◌≡◌, sym, ◌∙◌}
use lib.IntN.{ℤ}
use Rattle.building.specs.Places.{knows, place_on}
use Rattle.whole.proofs.Size.{said₂}
use Rattle.building.proofs.placed.Goals.{After-knows, After-place_on}
use Rattle.building.proofs.placed.Goals as goal

direction : (c : After-knows) → let a = c.args in c.knows.result ≡ knows a.kind a.direction
direction c =
    said₂ knows c.args.kind c.args.direction c.knows.ensures c.ranges.kind.sfits
    c.ranges.direction.sfits

where-it-is : (c : After-place_on)
    → let a = c.args in c.place_on.result ≡ place_on a.kind a.direction a.place
where-it-is c =
    said₂ (λ (k z : ℤ). place_on k z c.args.place) c.args.kind c.args.direction c.place_on.ensures
    c.ranges.kind.sfits c.ranges.direction.sfits

pub returns-then-not-knows : goal.returns-then-not-knows
returns-then-not-knows c = rw (sym (direction (goal.at.returns-then-not-knows c).After-knows) ∙ c.if-not-knows.true)

pub returns-then-not-place_on : goal.returns-then-not-place_on
returns-then-not-place_on c =
    rw (
      sym (direction (goal.at.returns-then-not-place_on c).After-knows) ∙ c.if-not-knows.false,
      sym (where-it-is (goal.at.returns-then-not-place_on c).After-place_on) ∙ c.if-not-place_on.true,
    )

pub returns : goal.returns
returns c =
    rw (
      sym (direction (goal.at.returns c).After-knows) ∙ c.if-not-knows.false,
      sym (where-it-is (goal.at.returns c).After-place_on) ∙ c.if-not-place_on.false,
    )
