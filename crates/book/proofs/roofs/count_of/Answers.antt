-- `roofs::count_of`: from where the part begins to where the next one does; the last has five rows.
use native.Mathlib.Omega.{arith}
use Rattle.book.proofs.Coded.{placed}
use Rattle.book.proofs.roofs.count_of.Goals as goal

pub returns-then-k-eq7 : goal.returns-then-k-eq7
returns-then-k-eq7 c = rw c.if-k-eq7.true

pub overflow_sub-result : goal.overflow_sub-result
overflow_sub-result c = omega (arith, (placed c.args.k (omega (arith, c.requires))).ended)

pub returns : goal.returns
returns c = omega (arith, (placed c.args.k (omega (arith, c.requires))).ended)
