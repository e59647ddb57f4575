-- `roofs::printed_slope`: the rows of the code are those of the definitions.
use native.Mathlib.Omega.{arith}
use Rattle.building.proofs.Machine.{last_arm}
use Rattle.book.proofs.roofs.printed_slope.Goals as goal

pub returns-in-0 : goal.returns-in-0
returns-in-0 c = rw c.in-0.is

pub returns-in-1 : goal.returns-in-1
returns-in-1 c = rw c.in-1.is

pub returns-in-2 : goal.returns-in-2
returns-in-2 c = rw c.in-2.is

pub returns-in-3 : goal.returns-in-3
returns-in-3 c = rw c.in-3.is

pub returns-in_default : goal.returns-in_default
returns-in_default c = rw (last_arm c.args.n 4 c.in_default.in_default-own.rest (omega (arith, c.requires)))
