-- `with_byte` meets its contract.
use native.Mathlib.Omega.{arith}
use borrow.Author.Tests.{le-leb, lt-leb, eq-eqb, ne_eqb}
use Rattle.rose.proofs.number.with_byte.Goals as goal

pub returns-then-b-gt57 : goal.returns-then-b-gt57
returns-then-b-gt57 c =
    let x = c.args.b in
    rw (le-leb 48 x (omega arith), lt-leb x 57 (omega arith), ne_eqb x 45 (λ e. omega arith))

pub returns-then-b-ge48 : goal.returns-then-b-ge48
returns-then-b-ge48 c =
    let x = c.args.b in
    rw (le-leb 48 x (omega arith), le-leb x 57 (omega arith)) c.with_digit.ensures

pub returns-then-b-eq45 : goal.returns-then-b-eq45
returns-then-b-eq45 c =
    let x = c.args.b in
    rw (lt-leb 48 x (omega arith), eq-eqb x 45 c.if-b-eq45.true) c.with_sign.ensures

pub returns : goal.returns
returns c =
    let x = c.args.b in rw (lt-leb 48 x (omega arith), ne_eqb x 45 c.if-b-eq45.false)
