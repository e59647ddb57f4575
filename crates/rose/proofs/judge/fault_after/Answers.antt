-- `fault_after` meets its contract.
use borrow.Author.Tests.{eq-eqb, ne_eqb}
use Rattle.rose.proofs.judge.fault_after.Goals as goal

pub returns-then-own-eq0 : goal.returns-then-own-eq0
returns-then-own-eq0 c =
    let own = c.fault_in-own in
    rw (← own.ensures, eq-eqb own.result 0 c.if-own-eq0.true) c.fault_of_room-room.ensures

pub returns : goal.returns
returns c =
    let own = c.fault_in-own in rw (← own.ensures, ne_eqb own.result 0 c.if-own-eq0.false)
