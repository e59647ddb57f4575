-- `choices::one_turn` meets its contract: the definition goes by the same tests.
use borrow.Author.Tests.{eq-eqb, ne_eqb, le-leb, lt-leb}
use Prim.Native.Nat.{◌/◌}
use native.Mathlib.Omega.{arith}
use Rattle.plain.specs.ByNumber.{turn_of}
use Rattle.plain.proofs.choices.one_turn.Goals as goal

pub returns-then-count-ne2 : goal.returns-then-count-ne2
unfolding turn_of
returns-then-count-ne2 c = rw (ne_eqb c.args.count 2 c.if-count-ne2.true)

pub returns-then-number-half : goal.returns-then-number-half
unfolding turn_of
returns-then-number-half c =
    let a = c.args in
    rw (eq-eqb a.count 2 (omega arith), le-leb a.number (a.left / 2) (omega arith))

pub returns : goal.returns
unfolding turn_of
returns c =
    let a = c.args in
    rw (eq-eqb a.count 2 (omega arith), lt-leb a.number (a.left / 2) (omega arith))
