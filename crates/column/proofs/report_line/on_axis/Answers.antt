-- `report_line::on_axis` meets its contract: two lines to an axis, and each takes its own.
use mathlib.Core.Path.{◌≡◌, ◌∙◌}
use mathlib.Core.Bool.{false}
use lib.IntN.{pos}
use lib.Signed.{lt_z}
use mir.Syntax.{w64}
use mir.ValLaws.{to_z-of_z}
use Rattle.whole.proofs.Order.{true-lt, false-lt}
use Rattle.whole.proofs.Size.{param, num, lt_yes, lt_no}
use Rattle.column.proofs.report_line.on_axis.Goals.{Else-line-lt3}
use Rattle.column.proofs.report_line.on_axis.Goals as goal

not-x : (c : Else-line-lt3) → lt_z c.args.line (pos 3) ≡ false
not-x c = false-lt (lt_no (param c.ranges.line) (num (pos 3)) c.if-line-lt3.false)

pub returns-then-line-lt3 : goal.returns-then-line-lt3
returns-then-line-lt3 c =
    to_z-of_z w64 c.args.x c.ranges.x
    ∙ rw (true-lt (lt_yes (param c.ranges.line) (num (pos 3)) c.if-line-lt3.true))

pub returns-then-line-lt5 : goal.returns-then-line-lt5
returns-then-line-lt5 c =
    let at_line_lt3 = (goal.at.returns-then-line-lt5 c).Else-line-lt3 in
    to_z-of_z w64 c.args.y c.ranges.y
    ∙ rw (not-x at_line_lt3, true-lt (lt_yes (param c.ranges.line) (num (pos 5)) c.if-line-lt5.true))

pub returns : goal.returns
returns c =
    let at_line_lt3 = (goal.at.returns c).Else-line-lt3 in
    to_z-of_z w64 c.args.z c.ranges.z
    ∙ rw (not-x at_line_lt3, false-lt (lt_no (param c.ranges.line) (num (pos 5)) c.if-line-lt5.false))
