-- `ends` meets its contract.
use native.Mathlib.Omega.{arith}
use borrow.Author.Tests.{eq-eqb, ne_eqb}
use Rattle.lines.proofs.ends.Goals as goal

pub returns-then-b-gt32 : goal.returns-then-b-gt32
returns-then-b-gt32 c = let b = c.args.b in rw (ne_eqb b 32 (λ e. omega arith), ne_eqb b 10 (λ e. omega arith))

pub returns-then-b-eq32 : goal.returns-then-b-eq32
returns-then-b-eq32 c = rw (eq-eqb _ 32 c.if-b-eq32.true)

pub returns : goal.returns
returns c = rw (ne_eqb _ 32 c.if-b-eq32.false)
