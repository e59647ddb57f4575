-- `extreme_of`: the year, the total in units and its newtons are read back as they are.
use mathlib.Core.Path.{◌∙◌}
use lib.IntN.{ℤ}
use mir.Syntax.{w64}
use Rattle.whole.proofs.Size.{said, returned}
use Rattle.answers.specs.Answers.{host_units}
use Rattle.answers.proofs.extreme_of.Goals as goal

pub returns : goal.returns
returns c =
    let total = c.args.e.total in
    let units = said (λ (y : ℤ). host_units y total) c.args.year c.units_of.ensures c.ranges.year.sfits in
    rw (
      (returned w64 c.units_of.result c.units_of.type_inv).same ∙ units,
      (returned w64 total.newtons c.struct_told-1.given.0.1).same,
    )
