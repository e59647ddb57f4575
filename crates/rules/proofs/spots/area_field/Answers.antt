-- `spots::area_field`: by the definition's own test.
use Rattle.rules.proofs.spots.area_field.Goals as goal

pub returns-then-heights : goal.returns-then-heights
returns-then-heights c = rw c.if-heights.true

pub returns : goal.returns
returns c = rw c.if-heights.false
