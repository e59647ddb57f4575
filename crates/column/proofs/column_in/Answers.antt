-- `column_in` meets its contract: the setting with the faces is the job.
use mathlib.Core.Path.{◌∙◌}
use mir.Syntax.{w64}
use mir.ValLaws.{to_z-of_z}
use Rattle.job.specs.Walk.{judged}
use Rattle.column.specs.Column.{column_verdict, column_after}
use Rattle.column.proofs.column_in.Goals as goal

pub returns : goal.returns
returns c =
    let a = c.args in
    let job = c.with_faces-job.ensures in
    let line = to_z-of_z w64 a.line c.ranges.line in
    let e = c.column_of.ensures in (
      e.0 ∙ (λ i. column_verdict (judged (job i)) (line i) a.list.now),
      e.1 ∙ (λ i. column_after (judged (job i)) (line i) a.list.now),
    )
