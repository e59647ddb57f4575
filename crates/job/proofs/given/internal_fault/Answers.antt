-- `internal_fault` meets its contract.
use mathlib.Core.Bool.{false}
use mathlib.Core.Path.{refl, sym, ◌∙◌}
use lib.IntN.{ℤ}
use Rattle.whole.proofs.Size.{said}
use Rattle.building.specs.Test.{too_long}
use Rattle.building.specs.Fault.{first}
use Rattle.rules.specs.Faults.{internal_faults}
use Rattle.job.proofs.Written.{internal-given, long-by}
use Rattle.job.proofs.given.internal_fault.Goals as goal

pub returns : goal.returns
returns c b =
    let z = c.args.i in
    let q = c.ranges.i.sfits in
    let no = refl {a = false} in
    long-by (said too_long z c.too_long-long.ensures q) no no no no
    (said (λ (y : ℤ). first (internal_faults y)) z c.internal_fault.ensures q) c.in_form.ensures
    ∙ sym (internal-given b z)
