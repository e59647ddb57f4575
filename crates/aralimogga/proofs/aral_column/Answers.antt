-- `aral_column` meets its contract: a list of faces is judged as its record.
use mathlib.Core.Path.{ap, ◌∙◌}
use mir.Syntax.{w64}
use mir.ValLaws.{to_z-of_z}
use Rattle.job.specs.declared.Faces.{Faces}
use Rattle.job.specs.Walk.{judged}
use Rattle.job.specs.Setting.{record_with}
use Rattle.column.specs.Column.{column_verdict, column_after}
use Rattle.column.proofs.ManyFaces.{judged-listed}
use Rattle.aralimogga.proofs.aral_column.Goals as goal

pub returns : goal.returns
returns c =
    let a = c.args in
    let list = a.column.now in
    let e = c.column_in.ensures in
    let line = to_z-of_z w64 a.line c.ranges.line in
    let same =
    ap (λ (k : Faces). judged (record_with a.s k)) c.gather-listed.ensures ∙ judged-listed a.s a.faces.now in (
      e.0 ∙ (λ i. column_verdict (same i) (line i) list),
      e.1 ∙ (λ i. column_after (same i) (line i) list),
    )
