-- `speeds::factor_at` meets its contract: before line i the walk stands above line i - 1.
use mathlib.Core.Path.{◌≡◌, sym, ap, ◌∙◌, subst}
use Prim.Native.Nat.{◌<◌}
use native.Mathlib.Omega.{arith}
use mathlib.Core.Bool.{Bool}
use lib.IntN.{pos}
use lib.Signed.{le_z}
use lib.ListN.{get_or}
use mir.Syntax.{w64}
use mir.Val.{to_z, of_z}
use Rattle.whole.specs.Lists.{first_of}
use Rattle.whole.proofs.Size.{num≤, back}
use Rattle.entry.specs.declared.Step.{Step}
use Rattle.job.specs.Carried.{no_step}
use Rattle.worst.specs.Speed.{factor_at}
use Rattle.worst.specs.Factors.{steps_of, StepSmall, Height}
use Rattle.worst.proofs.AtHeight.{walk_begins, walk_ends, walk-stops, walk-goes-on}
use Rattle.worst.proofs.speeds.factor_at.Goals.{At-loop-i, In-loop-i}
use Rattle.worst.proofs.speeds.factor_at.Goals as goal

-- the height, read back
read : (l : At-loop-i) → to_z w64 (of_z w64 l.args.height) ≡ l.args.height
read l = (back w64 (num≤ l.args.height l.requires.1) tt).same

-- line i
module _ (d : In-loop-i) where
  abbrev l : At-loop-i
  l = (goal.at.In-loop-i d).At-loop-i

  below : l.loop-i.i < 16
  below = let t = d.loop-i-test.true in omega (arith, l.requires.0.few)

  abbrev upper : Step
  upper = get_or l.args.profile.entry l.loop-i.i no_step

  small : StepSmall upper
  small = l.requires.0.each l.loop-i.i d.loop-i-test.true

  -- the test on what is read back is the test on the heights
  tested : {t : Bool}
      → le_z (to_z w64 (of_z w64 l.args.height)) (to_z w64 (of_z w64 upper.height)) ≡ t
      → le_z (to_z w64 (of_z w64 l.args.height)) upper.height ≡ t
  tested e =
      sym
      (ap (le_z (to_z w64 (of_z w64 l.args.height))) (back w64 (num≤ upper.height small.height) tt).same)
      ∙ e

pub returns-then-count-eq0 : goal.returns-then-count-eq0
unfolding first_of factor_at
returns-then-count-eq0 c = rw c.if-count-eq0.true

pub loop-i-init : goal.loop-i-init
loop-i-init c =
    let p = c.args.profile in
    let some : 0 < p.count = omega (arith, c.if-count-eq0.false) in
    (c.requires.0.each 0 some, walk_begins p.count p.entry _ some)

pub offset_bounds-profile-i : goal.offset_bounds-profile-i
offset_bounds-profile-i c = record { fits = omega (arith, below c) }

pub factor_between-requires : goal.factor_between-requires
factor_between-requires c =
    let at_line = (goal.at.factor_between-requires c).In-loop-i in
    let height = read (goal.at.factor_between-requires c).At-loop-i in
    (c.loop-i.invariant.0, small at_line, subst Height (sym height) c.requires.1)

pub returns-then-height-upper : goal.returns-then-height-upper
returns-then-height-upper c =
    let p = c.args.profile in
    c.factor_between.ensures
    ∙ walk-stops p.count p.entry _ c.loop-i.i c.loop-i.lower c.loop-i-test.true
    (tested (goal.at.returns-then-height-upper c).In-loop-i c.if-height-upper.true)
    ∙ sym c.loop-i.invariant.1
    ∙ ap (factor_at (steps_of p)) (read (goal.at.returns-then-height-upper c).At-loop-i)

pub loop-i-preserved : goal.loop-i-preserved
loop-i-preserved c =
    let at_loop_i = (goal.at.loop-i-preserved c).In-loop-i in
    let t = c.loop-i-test.true in
    let p = c.args.profile in (
      small at_loop_i,
      c.loop-i.invariant.1
          ∙ walk-goes-on p.count p.entry _ c.loop-i.i c.loop-i.lower t (tested at_loop_i c.if-height-upper.false),
    )

pub returns : goal.returns
returns c =
    let p = c.args.profile in
    let factor = (back w64 (num≤ c.loop-i.lower.factor c.loop-i.invariant.0.factor) tt).same in
    (λ j. record { part = factor j; whole = pos 1000 })
    ∙ walk_ends p.count p.entry _ c.loop-i.i c.loop-i.lower c.loop-i-test.false
    ∙ sym c.loop-i.invariant.1
    ∙ ap (factor_at (steps_of p)) (read (goal.at.returns c).At-loop-i)
