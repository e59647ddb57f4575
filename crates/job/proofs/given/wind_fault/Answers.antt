-- `wind_fault` meets its contract.
use mathlib.Core.Bool.{false}
use mathlib.Core.Path.{refl, sym, ◌∙◌}
use Rattle.whole.proofs.Size.{said}
use Rattle.building.specs.Test.{too_long}
use Rattle.job.proofs.Written.{wind-given, long-by}
use Rattle.job.proofs.given.wind_fault.Goals as goal

pub returns : goal.returns
returns c =
    let a = c.args in
    let q = c.struct_told-2-1.given in
    let no = refl {a = false} in
    long-by (said too_long a.w.direction c.too_long.ensures q.0.1)
    (said too_long a.w.speed c.too_long-2.ensures q.1.0.1) no no no c.wind_fault.ensures
    c.in_form.ensures
    ∙ sym (wind-given a.b a.w)
