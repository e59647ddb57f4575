-- `cells::every_internal` meets its contract: the best of the cells of the internal coefficients so far is kept.
use mathlib.Core.Path.{◌≡◌, sym, ap, ◌∙◌, subst}
use Prim.Native.Nat.{ℕ, ◌+◌, ◌-◌}
use native.Mathlib.Omega.{arith}
use lib.ListN.{take}
use Rattle.job.specs.Carried.{carried}
use Rattle.whole.specs.Lists.{numbers}
use Rattle.worst.specs.declared.Axis.{Axis}
use Rattle.worst.specs.declared.Side.{Side}
use Rattle.worst.specs.Best.{Best, better}
use Rattle.worst.specs.Cases.{Case, total}
use Rattle.worst.specs.Quick.{over}
use Rattle.worst.specs.Forces.{loads}
use Rattle.worst.specs.Rows.{force_in}
use Rattle.worst.specs.Worst.{given, shown_in}
use Rattle.worst.proofs.Better.{better-none}
use Rattle.worst.proofs.Rows.{ready, internals-counted}
use Rattle.plain.specs.Walked.{Keeps, walked, cell_walked}
use Rattle.plain.proofs.EveryCase.{walked_here}
use Rattle.plain.proofs.Rows.{cell-underway, cell-length, cell-handed}
use Rattle.plain.proofs.Upto.{over-upto}
use Rattle.plain.proofs.cells.every_internal.Invariants.{first}
use Rattle.plain.proofs.cells.every_internal.Goals.{After-walk-all}
use Rattle.plain.proofs.cells.every_internal.Goals as goal

-- the cell of internal coefficient i is kept after those before it
through : (c : After-walk-all) (axis : Axis) (s : Side) (b : Best (Case ℕ ℕ ℕ))
    → Keeps c.args.job.faces.count (shown_in c.args.six axis s) b
    → Keeps c.args.job.faces.count (shown_in c.walk-all.result axis s)
    (better s b (first axis s c.args.job c.args.wind c.loop-i.i))
through c axis s b h =
    let j = c.args.job in
    let t = c.requires.0 in
    let w = c.args.wind in
    let i = c.loop-i.i in
    let since = c.loop-i.auto.i in
    let up_to = c.loop-i-test.true in
    let cell = c.forces_of-cell.result in
    let is = c.forces_of-cell.ensures in
    let long = cell-length j t w i c.requires.2 c.requires.3 since up_to cell is in
    let all = take j.faces.count cell.face in
    let before = better s b (first axis s j w (i - 1)) in
    let was = subst (λ n. Keeps n (shown_in c.loop-i.all axis s) before) (sym long) (c.loop-i.invariant axis s b h) in
    subst (Keeps j.faces.count (shown_in c.walk-all.result axis s))
    (ap (better s before)
    (walked_here j t axis s w i c.requires.2 c.requires.3 since up_to all
    (cell-handed j t w i c.requires.2 c.requires.3 since up_to cell is))
    ∙ over-upto s (cell_walked s (loads axis (given (carried j))) w) b i since)
    (subst
    (λ n. Keeps n (shown_in c.walk-all.result axis s) (better s before (walked s (total (force_in axis) all) w i all)))
    long (c.walk-all.ensures axis s before was))

pub loop-i-init : goal.loop-i-init
unfolding numbers over
loop-i-init c axis s b h = subst (Keeps _ _) (sym (better-none s b)) h

pub shared_ref_as_front-walk : goal.shared_ref_as_front-walk
shared_ref_as_front-walk c = (ready c.args.job c.requires.0).profiled.few

pub walk-all-requires : goal.walk-all-requires
walk-all-requires c =
    cell-underway c.args.job c.requires.0 c.args.wind c.loop-i.i c.requires.2 c.requires.3 c.loop-i.auto.i
    c.loop-i-test.true c.forces_of-cell.result c.forces_of-cell.ensures c.requires.1

pub loop-i-preserved : goal.loop-i-preserved
loop-i-preserved c axis s b h =
    let e : c.loop-i.i ≡ c.loop-i.i + 1 - 1 = omega arith in
    subst (λ n. Keeps c.args.job.faces.count (shown_in c.walk-all.result axis s)
    (better s b (first axis s c.args.job c.args.wind n))) e
    (through (goal.at.loop-i-preserved c).After-walk-all axis s b h)

-- there is an internal coefficient
pub returns : goal.returns
returns c = absurd (omega (arith, (ready c.args.job c.requires.0).some_internal))

pub returns-2 : goal.returns-2
returns-2 c axis s b h =
    let j = c.args.job in
    let e : c.loop-i.i ≡ j.internals.count = omega arith in
    subst (λ n. Keeps j.faces.count (shown_in c.walk-all.result axis s) (better s b (first axis s j c.args.wind n)))
    (e ∙ sym (internals-counted j c.requires.0)) (through (goal.at.returns-2 c).After-walk-all axis s b h)
