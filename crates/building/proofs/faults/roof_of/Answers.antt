-- `faults::roof_of`: the printed row, kind by kind.
use Rattle.building.specs.Roof.{roof_of}
use Rattle.building.proofs.Machine.{last_arm}
use Rattle.building.proofs.faults.roof_of.Goals as goal

pub returns-in-0-clause-least : goal.returns-in-0-clause-least
unfolding roof_of
returns-in-0-clause-least c = rw c.in-0.is

pub returns-in-0-clause-greatest : goal.returns-in-0-clause-greatest
unfolding roof_of
returns-in-0-clause-greatest c = rw c.in-0.is

pub returns-in-0-clause-by_height : goal.returns-in-0-clause-by_height
unfolding roof_of
returns-in-0-clause-by_height c = rw c.in-0.is

pub returns-in-1-clause-least : goal.returns-in-1-clause-least
unfolding roof_of
returns-in-1-clause-least c = rw c.in-1.is

pub returns-in-1-clause-greatest : goal.returns-in-1-clause-greatest
unfolding roof_of
returns-in-1-clause-greatest c = rw c.in-1.is

pub returns-in-1-clause-by_height : goal.returns-in-1-clause-by_height
unfolding roof_of
returns-in-1-clause-by_height c = rw c.in-1.is

pub returns-in-2-clause-least : goal.returns-in-2-clause-least
unfolding roof_of
returns-in-2-clause-least c = rw c.in-2.is

pub returns-in-2-clause-greatest : goal.returns-in-2-clause-greatest
unfolding roof_of
returns-in-2-clause-greatest c = rw c.in-2.is

pub returns-in-2-clause-by_height : goal.returns-in-2-clause-by_height
unfolding roof_of
returns-in-2-clause-by_height c = rw c.in-2.is

pub returns-in-3-clause-least : goal.returns-in-3-clause-least
unfolding roof_of
returns-in-3-clause-least c = rw c.in-3.is

pub returns-in-3-clause-greatest : goal.returns-in-3-clause-greatest
unfolding roof_of
returns-in-3-clause-greatest c = rw c.in-3.is

pub returns-in-3-clause-by_height : goal.returns-in-3-clause-by_height
unfolding roof_of
returns-in-3-clause-by_height c = rw c.in-3.is

pub returns-in-4-clause-least : goal.returns-in-4-clause-least
unfolding roof_of
returns-in-4-clause-least c = rw c.in-4.is

pub returns-in-4-clause-greatest : goal.returns-in-4-clause-greatest
unfolding roof_of
returns-in-4-clause-greatest c = rw c.in-4.is

pub returns-in-4-clause-by_height : goal.returns-in-4-clause-by_height
unfolding roof_of
returns-in-4-clause-by_height c = rw c.in-4.is

pub returns-in-5-clause-least : goal.returns-in-5-clause-least
unfolding roof_of
returns-in-5-clause-least c = rw c.in-5.is

pub returns-in-5-clause-greatest : goal.returns-in-5-clause-greatest
unfolding roof_of
returns-in-5-clause-greatest c = rw c.in-5.is

pub returns-in-5-clause-by_height : goal.returns-in-5-clause-by_height
unfolding roof_of
returns-in-5-clause-by_height c = rw c.in-5.is

pub returns-in_default-clause-least : goal.returns-in_default-clause-least
unfolding roof_of
returns-in_default-clause-least c = rw (last_arm c.args.kind 6 c.in_default.in_default-own.rest c.requires)

pub returns-in_default-clause-greatest : goal.returns-in_default-clause-greatest
unfolding roof_of
returns-in_default-clause-greatest c = rw (last_arm c.args.kind 6 c.in_default.in_default-own.rest c.requires)

pub returns-in_default-clause-by_height : goal.returns-in_default-clause-by_height
unfolding roof_of
returns-in_default-clause-by_height c = rw (last_arm c.args.kind 6 c.in_default.in_default-own.rest c.requires)
