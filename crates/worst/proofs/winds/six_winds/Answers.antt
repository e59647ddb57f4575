-- `winds::six_winds` meets its contract: each case's wind has its number, and zone F a place under it.
use mathlib.Core.Path.{ap, ◌∙◌}
use Prim.Native.Nat.{◌<◌}
use native.Mathlib.Omega.{arith}
use Rattle.worst.specs.declared.Axis.{Axis}
use Rattle.worst.specs.declared.Axis.TheVariants.{X, Y, Z}
use Rattle.worst.specs.declared.Side.{Side}
use Rattle.worst.specs.declared.Side.TheVariants.{Greatest, Least}
use Rattle.worst.specs.Engine.{top_at, case_winds}
use Rattle.worst.proofs.winds.six_winds.Goals.{Start}
use Rattle.worst.proofs.winds.six_winds.Goals as goal

numbered : (a : Start) (axis : Axis) (s : Side)
    → let t = top_at axis s a.args.ends in
    (0 < t.wind) × (t.wind < 9)
numbered a axis s = let on = a.requires axis s in (on.some, on.few)

pub overflow_sub-x_up : goal.overflow_sub-x_up
overflow_sub-x_up c = let h = numbered (goal.at.overflow_sub-x_up c).Start X Greatest in omega arith

pub bounds-winds-ends : goal.bounds-winds-ends
bounds-winds-ends c = let h = numbered (goal.at.bounds-winds-ends c).Start X Greatest in omega arith

pub overflow_sub-x_down : goal.overflow_sub-x_down
overflow_sub-x_down c = let h = numbered (goal.at.overflow_sub-x_down c).Start X Least in omega arith

pub bounds-winds-ends-2 : goal.bounds-winds-ends-2
bounds-winds-ends-2 c = let h = numbered (goal.at.bounds-winds-ends-2 c).Start X Least in omega arith

pub overflow_sub-y_up : goal.overflow_sub-y_up
overflow_sub-y_up c = let h = numbered (goal.at.overflow_sub-y_up c).Start Y Greatest in omega arith

pub bounds-winds-ends-3 : goal.bounds-winds-ends-3
bounds-winds-ends-3 c = let h = numbered (goal.at.bounds-winds-ends-3 c).Start Y Greatest in omega arith

pub overflow_sub-y_down : goal.overflow_sub-y_down
overflow_sub-y_down c = let h = numbered (goal.at.overflow_sub-y_down c).Start Y Least in omega arith

pub bounds-winds-ends-4 : goal.bounds-winds-ends-4
bounds-winds-ends-4 c = let h = numbered (goal.at.bounds-winds-ends-4 c).Start Y Least in omega arith

pub overflow_sub-z_up : goal.overflow_sub-z_up
overflow_sub-z_up c = let h = numbered (goal.at.overflow_sub-z_up c).Start Z Greatest in omega arith

pub bounds-winds-ends-5 : goal.bounds-winds-ends-5
bounds-winds-ends-5 c = let h = numbered (goal.at.bounds-winds-ends-5 c).Start Z Greatest in omega arith

pub overflow_sub-z_down : goal.overflow_sub-z_down
overflow_sub-z_down c = let h = numbered (goal.at.overflow_sub-z_down c).Start Z Least in omega arith

pub overflow_cast-z_down : goal.overflow_cast-z_down
overflow_cast-z_down c = let h = numbered (goal.at.overflow_cast-z_down c).Start Z Least in omega arith

pub offset_bounds-winds-ends-6 : goal.offset_bounds-winds-ends-6
offset_bounds-winds-ends-6 c =
    let h = numbered (goal.at.offset_bounds-winds-ends-6 c).Start Z Least in
    record { fits = omega arith }

pub bounds-winds-ends-6 : goal.bounds-winds-ends-6
bounds-winds-ends-6 c = let h = numbered (goal.at.bounds-winds-ends-6 c).Start Z Least in omega arith

pub case_winds-x-requires : goal.case_winds-x-requires
case_winds-x-requires c = let p = c.requires in ((p X Greatest).placed, (p X Least).placed)

pub case_winds-y-requires : goal.case_winds-y-requires
case_winds-y-requires c = let p = c.requires in ((p Y Greatest).placed, (p Y Least).placed)

pub case_winds-z-requires : goal.case_winds-z-requires
case_winds-z-requires c = let p = c.requires in ((p Z Greatest).placed, (p Z Least).placed)

pub returns : goal.returns
returns c =
    let x = c.case_winds-x.ensures in
    let y = c.case_winds-y.ensures in
    let z = c.case_winds-z.ensures in
    let a = c.args in
    (λ j. record {
      x = x.0 j;
      y = (y.0 ∙ ap (λ b. case_winds b a.winds a.ends.y) x.1) j;
      z = (z.0 ∙ ap (λ b. case_winds b a.winds a.ends.z) (y.1 ∙ x.1)) j;
    })
