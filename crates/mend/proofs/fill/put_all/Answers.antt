-- `fill::put_all` meets its contract: what is put before i, and what the fates from there on bring, is all.
use Prim.Native.Nat.{◌-◌}
use mathlib.Core.Path.{◌∙◌}
use native.Mathlib.Omega.{arith}
use lib.ListN.{length, get_or}
use Rattle.page.proofs.Put.{put-length}
use Rattle.mend.specs.OneWalk.{at_start}
use Rattle.mend.proofs.Counted.{fates-end}
use Rattle.mend.proofs.Filling.{going_start, going_next, going-room, going_end, going-added, onward-bound}
use borrow.Author.Rules.{rules}
use Rattle.mend.proofs.fill.put_all.Goals as goal

pub loop-i-init : goal.loop-i-init
loop-i-init c = (search rules, search rules, rw c.at_start-w.ensures (going_start _ _ _ _))

pub put_kept-at-requires : goal.put_kept-at-requires
put_kept-at-requires c = omega (arith, going-room _ c.loop-i.invariant.2)

pub put_taken-next-requires : goal.put_taken-next-requires
put_taken-next-requires c =
    omega (arith, going-room _ c.loop-i.invariant.2)

pub loop-i-preserved : goal.loop-i-preserved
loop-i-preserved c =
    let s = c.args.s.now in
    let o =
    onward-bound c.loop-i.p (get_or s c.loop-i.i 0) c.loop-i.i c.loop-i.invariant.0 c.loop-i.invariant.1
    c.next_position-p.result c.next_position-p.ensures in (
      o.0,
      o.1,
      going_next s c.loop-i.i c.loop-i.w (search rules) c.loop-i.invariant.2
          c.step-w.result c.step-w.ensures c.put_kept-at.ensures c.put_taken-next.ensures c.next_position-p.result
          c.next_position-p.ensures,
    )

pub shape_of-out-then-added : goal.shape_of-out-then-added
shape_of-out-then-added c =
    put-length c.put_byte.ensures ∙ (going-room _ c.loop-i.invariant.2).0

pub shape_of-list-then-added : goal.shape_of-list-then-added
shape_of-list-then-added c =
    put-length c.put_change.ensures ∙ (going-room _ c.loop-i.invariant.2).1

pub returns-then-added : goal.returns-then-added
returns-then-added c =
    let s = c.args.s.now in
    going-added _ (rw (fates-end s c.loop-i.i c.loop-i.w c.loop-i-test.false) at c.loop-i.invariant.2)
    c.if-added.true c.put_byte.ensures c.put_change.ensures

pub shape_of-out-else-added : goal.shape_of-out-else-added
shape_of-out-else-added c = (going-room _ c.loop-i.invariant.2).0

pub shape_of-list-else-added : goal.shape_of-list-else-added
shape_of-list-else-added c = (going-room _ c.loop-i.invariant.2).1

pub returns-else-added : goal.returns-else-added
returns-else-added c =
    let s = c.args.s.now in
    going_end _ (rw (fates-end s c.loop-i.i c.loop-i.w c.loop-i-test.false) at c.loop-i.invariant.2)
    c.if-added.false
