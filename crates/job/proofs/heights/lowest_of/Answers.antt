-- `lowest_of` meets its contract.
use mathlib.Core.Path.{◌≡◌, ◌∙◌, sym, ap}
use native.Mathlib.Omega.{arith}
use Prim.Native.Nat.{ℕ, suc, ◌-◌}
use mir.Syntax.{w64}
use Rattle.whole.specs.Lists.{first_of}
use Rattle.whole.proofs.Size.{returned}
use Rattle.job.specs.Carried.{no_step, lowest_of}
use Rattle.job.proofs.Years.{lowest-first}
use Rattle.job.proofs.heights.lowest_of.Goals as goal

pub returns-then-n-eq0 : goal.returns-then-n-eq0
unfolding first_of
returns-then-n-eq0 c = rw c.if-n-eq0.true

pub returns : goal.returns
returns c =
    let a = c.args in
    let n : a.n ≡ suc (a.n - 1) = omega arith in
    (returned w64 _ c.struct_told-1.given.0.1).same
    ∙ sym (ap (λ (k : ℕ). lowest_of (first_of no_step k a.p.entry)) n ∙ lowest-first (a.n - 1) a.p.entry)
