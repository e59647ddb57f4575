-- `highest_of` meets its contract.
use mathlib.Core.Path.{◌≡◌, ◌∙◌, sym, ap}
use native.Mathlib.Omega.{arith}
use mathlib.Core.List.{List}
use Prim.Native.Nat.{ℕ, suc, ◌-◌, ◌<◌}
use mir.Syntax.{w64}
use lib.IntN.{pos, neg_ℤ}
use lib.ListN.{length, get_or, get_or-eq_default}
use Rattle.whole.specs.Lists.{first_of}
use Rattle.whole.proofs.Size.{returned}
use Rattle.entry.specs.declared.Step.{Step}
use Rattle.job.specs.Carried.{no_step, highest_of}
use Rattle.job.proofs.Years.{highest-first}
use Rattle.job.proofs.heights.highest_of.Goals as goal

-- the last of so many steps that there are some
last_of : (n : ℕ) (l : List Step) → 0 < n → highest_of (first_of no_step n l) ≡ (get_or l (n - 1) no_step).height
last_of n l h =
    let k : n ≡ suc (n - 1) = omega arith in
    ap (λ (m : ℕ). highest_of (first_of no_step m l)) k ∙ highest-first (neg_ℤ (pos 1)) (n - 1) l

pub returns-then-n-eq0 : goal.returns-then-n-eq0
unfolding first_of
returns-then-n-eq0 c = rw c.if-n-eq0.true

pub returns : goal.returns
returns c =
    (returned w64 _ c.struct_told-1.given.0.1).same ∙ sym (last_of c.args.n c.args.p.entry (omega arith))

pub returns-then-n-gt16 : goal.returns-then-n-gt16
returns-then-n-gt16 c =
    let l = c.args.p.entry in
    let room : length l ≡ 16 = c.well_formed.0.1.1.1.0.1.0.1 in
    sym (last_of c.args.n l (omega arith)
    ∙ ap (λ (t : Step). t.height) (get_or-eq_default l no_step {n = c.args.n - 1} (omega (arith, room))))
