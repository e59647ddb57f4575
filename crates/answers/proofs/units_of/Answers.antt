-- `units_of`: the year, and what `as_units` gives, are read back as they are.
use mathlib.Core.Path.{sym, ◌∙◌}
use mir.Syntax.{w64}
use Rattle.building.specs.Year.{has_long_sheds}
use Rattle.whole.proofs.Size.{said, returned}
use Rattle.answers.proofs.units_of.Goals as goal

pub returns-then-has_long_sheds : goal.returns-then-has_long_sheds
returns-then-has_long_sheds c =
    rw (sym (said has_long_sheds c.args.year c.has_long_sheds.ensures c.ranges.year.sfits) ∙ c.if-has_long_sheds.true)

pub returns : goal.returns
returns c =
    rw (sym (said has_long_sheds c.args.year c.has_long_sheds.ensures c.ranges.year.sfits) ∙ c.if-has_long_sheds.false)
    ((returned w64 c.as_units.result c.as_units.type_inv).same ∙ c.as_units.ensures)
