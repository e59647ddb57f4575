-- `step_fault` meets its contract.
use mathlib.Core.Bool.{false}
use mathlib.Core.Path.{refl, sym, ◌∙◌, ap}
use Prim.Native.Nat.{ℕ}
use lib.IntN.{ℤ}
use Rattle.whole.proofs.Size.{said}
use Rattle.building.specs.Test.{too_long}
use Rattle.building.specs.Fault.{first}
use Rattle.rules.specs.Faults.{step_faults}
use Rattle.job.proofs.Written.{step_given, long-by}
use Rattle.job.proofs.given.step_fault.Goals as goal

pub returns : goal.returns
returns c b e =
    let a = c.args in
    let q = c.struct_told-2-1.given in
    let no = refl {a = false} in
    let faults : ℤ → ℕ = λ z. first (step_faults z a.s) in
    long-by (said too_long a.s.height c.too_long.ensures q.0.1)
    (said too_long a.s.factor c.too_long-2.ensures q.1.0.1) no no no
    (said faults a.highest c.step_fault.ensures c.ranges.highest.sfits ∙ ap faults e) c.in_form.ensures
    ∙ sym (step_given b a.s)
