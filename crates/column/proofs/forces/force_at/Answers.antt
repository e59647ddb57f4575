-- `forces::force_at` meets its contract: at the first alternative, or at the last.
use mathlib.Core.Path.{ap, ◌∙◌}
use mir.Syntax.{w64}
use mir.ValLaws.{to_z-of_z}
use borrow.Author.Tests.{eq-eqb, ne_eqb}
use Rattle.worst.specs.Rows.{along_axis}
use Rattle.column.specs.Column.{axis_of}
use Rattle.column.proofs.forces.force_at.Goals as goal

pub returns-then-k-eq1 : goal.returns-then-k-eq1
returns-then-k-eq1 c =
    to_z-of_z w64 c.along.result (record { sfits = c.along.type_inv })
    ∙ c.along.ensures
    ∙ ap (λ z. along_axis (axis_of z) c.args.f.first) (to_z-of_z w64 c.args.line c.ranges.line)
    ∙ rw (eq-eqb c.args.k 1 c.if-k-eq1.true)

pub returns : goal.returns
returns c =
    to_z-of_z w64 c.along-2.result (record { sfits = c.along-2.type_inv })
    ∙ c.along-2.ensures
    ∙ ap (λ z. along_axis (axis_of z) c.args.f.last) (to_z-of_z w64 c.args.line c.ranges.line)
    ∙ rw (ne_eqb c.args.k 1 c.if-k-eq1.false)
