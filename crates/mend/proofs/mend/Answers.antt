-- `mend` meets its contract: a law for each return, by what was counted.
use Rattle.mend.proofs.Answered.{no-text-room, no-list-room, within, room-for-both}
use Rattle.mend.proofs.mend.Goals as goal

pub returns-then-out-all : goal.returns-then-out-all
returns-then-out-all c =
    let t = c.tally_all-bytes in
    no-text-room _ t.result c.with_end-all.result t.ensures.0 c.with_end-all.ensures _ _ c.no_room.result
    c.no_room.ensures c.if-out-all.true

pub returns-then-list-all : goal.returns-then-list-all
returns-then-list-all c =
    let t = c.tally_all-bytes in
    no-list-room _ t.result c.with_end-all.result t.ensures.0 c.with_end-all.ensures _ _ c.no_room-then-list-all.result
    c.no_room-then-list-all.ensures c.if-list-all.true

pub slice_bounds-verdict_of-end : goal.slice_bounds-verdict_of-end
slice_bounds-verdict_of-end c =
    let t = c.tally_all-bytes in
    within _ t.result c.with_end-all.result t.ensures.0 c.with_end-all.ensures _ _ c.if-out-all.false
    c.if-list-all.false
    c.put_all.ensures

pub returns : goal.returns
returns c =
    let t = c.tally_all-bytes in
    room-for-both _ t.result c.with_end-all.result t.ensures.0 c.with_end-all.ensures _ _ c.if-out-all.false
    c.if-list-all.false c.put_all.ensures c.verdict_of-refused.result
    c.verdict_of-refused.ensures
