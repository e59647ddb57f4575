-- `forces::along` meets its contract: the number of the line's axis.
use mathlib.Core.Path.{◌∙◌}
use borrow.Author.Rules.{rules}
use mir.Syntax.{w64}
use mir.Val.{SFits}
use mir.ValLaws.{to_z-of_z}
use Rattle.column.specs.Column.{axis_of, number_on}
use Rattle.column.proofs.ReportLines.{along-is}
use Rattle.column.proofs.forces.along.Goals as goal

pub returns : goal.returns
returns c =
    let f = c.args.f in
    let x : SFits w64 f.x = search rules in
    let y : SFits w64 f.y = search rules in
    let z : SFits w64 f.z = search rules in
    to_z-of_z w64 c.on_axis.result (record { sfits = c.on_axis.type_inv })
    ∙ c.on_axis.ensures
    ∙ (λ i. number_on (axis_of (to_z-of_z w64 c.args.line c.ranges.line i)) (to_z-of_z w64 f.x x i)
    (to_z-of_z w64 f.y y i) (to_z-of_z w64 f.z z i))
    ∙ along-is (axis_of c.args.line) f
