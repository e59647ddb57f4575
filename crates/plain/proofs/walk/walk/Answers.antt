-- `walk::walk` meets its contract: the best of the choices of the numbers so far is kept.
use mathlib.Core.Path.{◌≡◌, sym, ap, ◌∙◌, subst}
use Prim.Native.Nat.{ℕ, ◌+◌, ◌-◌}
use native.Mathlib.Omega.{arith}
use lib.ListN.{length}
use Rattle.whole.specs.Lists.{numbers}
use Rattle.worst.specs.declared.Axis.{Axis}
use Rattle.worst.specs.declared.Side.{Side}
use Rattle.worst.specs.Best.{Best, at, better}
use Rattle.worst.specs.Cases.{Case, total}
use Rattle.worst.specs.Quick.{over}
use Rattle.worst.specs.Rows.{force_in}
use Rattle.worst.specs.Worst.{shown_in}
use Rattle.worst.proofs.Better.{better-none}
use Rattle.plain.specs.ByNumber.{choice_of}
use Rattle.plain.specs.Walked.{case_with, Keeps}
use Rattle.plain.proofs.Choosing.{ways-some, walked-numbered, choice-length, own-choice}
use Rattle.plain.proofs.Upto.{over-upto}
use Rattle.plain.proofs.walk.walk.Invariants.{numbered}
use Rattle.plain.proofs.walk.walk.Goals.{After-with_case-kept}
use Rattle.plain.proofs.walk.walk.Goals as goal

-- the case of number n is kept after those before it
through : (c : After-with_case-kept) (axis : Axis) (s : Side) (b : Best (Case ℕ ℕ ℕ))
    → Keeps (length c.args.fs.now) (shown_in c.args.six axis s) b
    → Keeps (length c.args.fs.now) (shown_in c.with_case-kept.result axis s)
    (better s b (over s (numbered axis c.args.fs.now c.args.wind c.args.internal) (numbers c.loop-n.n 1)))
through c axis s b h =
    let fs = c.args.fs.now in
    let n = c.loop-n.n in
    let chosen = choice_of fs n in
    let g = numbered axis fs c.args.wind c.args.internal in
    subst (Keeps (length fs) (shown_in c.with_case-kept.result axis s))
    (ap
    (λ ks.
    better s (better s b (over s g (numbers (n - 1) 1)))
    (at (total (force_in axis) fs ks) (case_with c.args.wind c.args.internal chosen)))
    (own-choice (length fs) c.choice_of-choice.result chosen c.choice_of-choice.ensures (choice-length fs n))
    ∙ over-upto s g b n c.loop-n.auto.n)
    (c.with_case-kept.ensures axis s (length fs) chosen _ c.choice_of-choice.ensures (c.loop-n.invariant axis s b h))

pub loop-n-init : goal.loop-n-init
unfolding numbers over
loop-n-init c axis s b h = subst (Keeps _ _) (sym (better-none s b)) h

pub loop-n-preserved : goal.loop-n-preserved
loop-n-preserved c axis s b h =
    let fs = c.args.fs.now in
    let e : c.loop-n.n ≡ c.loop-n.n + 1 - 1 = omega arith in
    subst (λ m. Keeps (length fs) (shown_in c.with_case-kept.result axis s)
    (better s b (over s (numbered axis fs c.args.wind c.args.internal) (numbers m 1)))) e
    (through (goal.at.loop-n-preserved c).After-with_case-kept axis s b h)

-- there is a choice
pub returns : goal.returns
returns c = absurd (omega (arith, ways-some c.args.fs.now))

pub returns-2 : goal.returns-2
returns-2 c axis s b h =
    let fs = c.args.fs.now in
    let e : c.loop-n.n ≡ c.ways-all.result = omega arith in
    subst (λ x. Keeps (length fs) (shown_in c.with_case-kept.result axis s) (better s b x))
    (ap (λ m. over s (numbered axis fs c.args.wind c.args.internal) (numbers m 1)) (e ∙ c.ways-all.ensures)
    ∙ sym (walked-numbered s (total (force_in axis) fs) c.args.wind c.args.internal fs))
    (through (goal.at.returns-2 c).After-with_case-kept axis s b h)
