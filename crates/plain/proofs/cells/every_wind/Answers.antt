-- `cells::every_wind` meets its contract: the best of the cases of the winds so far is kept, and of all winds that is
-- the worst of all cases.
use mathlib.Core.Path.{◌≡◌, sym, ap, ◌∙◌, subst}
use Prim.Native.Nat.{◌+◌, ◌-◌}
use native.Mathlib.Omega.{arith}
use Rattle.whole.specs.Lists.{numbers}
use Rattle.job.specs.Carried.{carried}
use Rattle.worst.specs.declared.Axis.{Axis}
use Rattle.worst.specs.declared.Side.{Side}
use Rattle.worst.specs.Best.{better}
use Rattle.worst.specs.Quick.{over}
use Rattle.worst.specs.Shown.{shown}
use Rattle.worst.specs.Worst.{shown_in}
use Rattle.worst.proofs.Better.{over-next}
use Rattle.worst.proofs.Rows.{ready}
use Rattle.plain.specs.Walked.{Keeps, wind_walked}
use Rattle.plain.proofs.EveryCase.{extreme-is, six-are}
use Rattle.plain.proofs.cells.every_wind.Invariants.{first}
use Rattle.plain.proofs.cells.every_wind.Goals.{After-every_internal-six}
use Rattle.plain.proofs.cells.every_wind.Goals as goal

-- the cases of wind w are kept after those before it
through : (c : After-every_internal-six) (axis : Axis) (s : Side)
    → Keeps c.args.job.faces.count (shown_in c.every_internal-six.result axis s) (first axis s c.args.job c.loop-w.w)
through c axis s =
    let j = c.args.job in
    let w = c.loop-w.w in
    let e : w - 1 + 1 ≡ w = omega (arith, c.loop-w.auto.w) in
    let g = wind_walked axis s (carried j) in
    subst (Keeps j.faces.count (shown_in c.every_internal-six.result axis s))
    (ap (λ n. better s (first axis s j (w - 1)) (g n)) (sym e) ∙ over-next s g (w - 1) ∙ ap (first axis s j) e)
    (c.every_internal-six.ensures axis s (first axis s j (w - 1)) (c.loop-w.invariant axis s))

pub loop-w-init : goal.loop-w-init
unfolding numbers over
loop-w-init c axis s = record { is = c.nothing_yet-six.ensures axis s; wind = tt }

pub every_internal-six-requires : goal.every_internal-six-requires
every_internal-six-requires c = (c.requires.0, c.requires.1, c.loop-w.auto.w, c.loop-w-test.true)

pub loop-w-preserved : goal.loop-w-preserved
loop-w-preserved c axis s =
    let e : c.loop-w.w ≡ c.loop-w.w + 1 - 1 = omega arith in
    subst (λ n. Keeps c.args.job.faces.count (shown_in c.every_internal-six.result axis s)
    (first axis s c.args.job n)) e (through (goal.at.loop-w-preserved c).After-every_internal-six axis s)

-- there is a wind
pub returns : goal.returns
returns c = absurd (omega (arith, (ready c.args.job c.requires.0).some_wind))

pub returns-2 : goal.returns-2
returns-2 c =
    let j = c.args.job in
    let six = c.every_internal-six.result in
    let all : c.loop-w.w ≡ j.winds.count = omega arith in
    six-are (carried j) six
    (λ axis s.
    extreme-is j c.requires.0 axis s (shown_in six axis s)
    ((through (goal.at.returns-2 c).After-every_internal-six axis s).is
    ∙ ap (λ n. shown j.faces.count (first axis s j n)) all))
