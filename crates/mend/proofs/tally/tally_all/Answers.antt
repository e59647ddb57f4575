-- `tally::tally_all` meets its contract: what is counted before i, and what stands from there on, is all.
use Prim.Native.Nat.{◌-◌}
use mathlib.Core.Path.{sym, ◌∙◌}
use lib.ListN.{get_or}
use Rattle.mend.specs.OneWalk.{at_start, tallied}
use Rattle.mend.proofs.Counted.{tallied-next, tallied-end, tally-bound}
use borrow.Author.Rules.{rules}
use Rattle.mend.proofs.tally.tally_all.Goals as goal

pub loop-i-init : goal.loop-i-init
loop-i-init c = (search rules, search rules, rw c.at_start-w.ensures)

pub loop-i-preserved : goal.loop-i-preserved
loop-i-preserved c =
    let s = c.args.s.now in
    let k =
    tally-bound c.loop-i.t (get_or s c.loop-i.i 0) c.step-w.result.kind c.loop-i.i c.loop-i.invariant.0
    c.loop-i.invariant.1 c.with_byte-t.result c.with_byte-t.ensures in (
      k.0,
      k.1,
      c.loop-i.invariant.2
          ∙ tallied-next s c.loop-i.i c.loop-i.w (search rules) c.step-w.result c.step-w.ensures c.loop-i.t
          c.with_byte-t.result c.with_byte-t.ensures,
    )

pub returns : goal.returns
returns c =
    let s = c.args.s.now in (
      sym (c.loop-i.invariant.2 ∙ tallied-end s c.loop-i.i c.loop-i.w (search rules) c.loop-i.t),
      search rules,
      search rules,
    )
