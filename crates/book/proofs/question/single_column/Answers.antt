-- `question::single_column`: by the definition's own tests.
use mathlib.Core.Path.{ap}
use Prim.Native.Nat.{ℕ, ◌+◌}
use native.Mathlib.Omega.{arith}
use borrow.Author.Tests.{eq-eqb, ne_eqb}
use Rattle.book.specs.Question.{single_column}
use Rattle.book.proofs.Columns.{half-below, flank-below}
use Rattle.book.proofs.question.single_column.Goals as goal

pub returns-then-wind-eq0 : goal.returns-then-wind-eq0
unfolding single_column
returns-then-wind-eq0 c = rw (eq-eqb c.args.wind 0 c.if-wind-eq0.true) c.half_of.ensures

pub overflow_add-result : goal.overflow_add-result
overflow_add-result c = omega (arith, c.half_of-then-wind-eq45.ensures, half-below c.args.zone)

pub returns-then-wind-eq45 : goal.returns-then-wind-eq45
unfolding single_column
returns-then-wind-eq45 c =
    let wind = c.args.wind in
    rw (ne_eqb wind 0 c.if-wind-eq0.false, eq-eqb wind 45 c.if-wind-eq45.true) (ap (λ
    (n : ℕ). 2 + n) c.half_of-then-wind-eq45.ensures)

pub overflow_add-result-then-wind-eq90 : goal.overflow_add-result-then-wind-eq90
overflow_add-result-then-wind-eq90 c = omega (arith, c.flank_of.ensures, flank-below c.args.zone)

pub returns-then-wind-eq90 : goal.returns-then-wind-eq90
unfolding single_column
returns-then-wind-eq90 c =
    let wind = c.args.wind in
    rw (ne_eqb wind 0 c.if-wind-eq0.false, ne_eqb wind 45 c.if-wind-eq45.false, eq-eqb wind 90 c.if-wind-eq90.true)
    (ap (λ (n : ℕ). 4 + n) c.flank_of.ensures)

pub overflow_add-result-then-wind-eq135 : goal.overflow_add-result-then-wind-eq135
overflow_add-result-then-wind-eq135 c =
    omega (arith, c.half_of-then-wind-eq135.ensures, half-below c.args.zone)

pub returns-then-wind-eq135 : goal.returns-then-wind-eq135
unfolding single_column
returns-then-wind-eq135 c =
    let wind = c.args.wind in
    rw (
      ne_eqb wind 0 c.if-wind-eq0.false,
      ne_eqb wind 45 c.if-wind-eq45.false,
      ne_eqb wind 90 c.if-wind-eq90.false,
      eq-eqb wind 135 c.if-wind-eq135.true,
    )
    (ap (λ (n : ℕ). 6 + n) c.half_of-then-wind-eq135.ensures)

pub overflow_add-result-2 : goal.overflow_add-result-2
overflow_add-result-2 c =
    omega (arith, c.half_of-2.ensures, half-below c.args.zone)

pub returns : goal.returns
unfolding single_column
returns c =
    let wind = c.args.wind in
    rw (
      ne_eqb wind 0 c.if-wind-eq0.false,
      ne_eqb wind 45 c.if-wind-eq45.false,
      ne_eqb wind 90 c.if-wind-eq90.false,
      ne_eqb wind 135 c.if-wind-eq135.false,
    )
    (ap (λ (n : ℕ). 8 + n) c.half_of-2.ensures)
