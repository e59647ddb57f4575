-- `entry_count` meets its contract.
-- a profile, by the year
use mathlib.Core.Path.{◌≡◌, sym, ◌∙◌}
use mathlib.Core.Bool.{Bool}
use Rattle.whole.proofs.Size.{said}
use Rattle.building.specs.Year.{has_heights}
use Rattle.job.proofs.Alone.{winds-counted, internals-counted, steps-counted, faces-counted}
use Rattle.job.proofs.entry_count.Goals.{After-has_heights}
use Rattle.job.proofs.entry_count.Goals as goal

tested : (c : After-has_heights) (t : Bool) → c.has_heights.result ≡ t
    → has_heights c.args.j.year ≡ t
tested c t e =
    sym (said has_heights c.args.j.year c.has_heights.ensures
    c.struct_told-1.given.0.1) ∙ e

pub returns-then-has_heights : goal.returns-then-has_heights
returns-then-has_heights c =
    let at_has_heights = (goal.at.returns-then-has_heights c).After-has_heights in
    rw c.in-P.is
    (sym (steps-counted c.args.j ∙ rw (tested at_has_heights _ c.if-has_heights.true)))

pub returns-in-W : goal.returns-in-W
returns-in-W c = rw c.in-W.is (sym (winds-counted c.args.j))

pub returns-in-I : goal.returns-in-I
returns-in-I c = rw c.in-I.is (sym (internals-counted c.args.j))

pub returns-else-has_heights : goal.returns-else-has_heights
returns-else-has_heights c =
    let at_has_heights = (goal.at.returns-else-has_heights c).After-has_heights in
    rw c.in-P.is
    (sym (steps-counted c.args.j ∙ rw (tested at_has_heights _ c.if-has_heights.false)))

pub returns-in-F : goal.returns-in-F
returns-in-F c = rw c.in-F.is (sym (faces-counted c.args.j))
