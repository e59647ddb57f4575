-- `question::gable_column`: by the definition's own test.
use mathlib.Core.Path.{ap}
use Prim.Native.Nat.{ℕ, ◌+◌}
use native.Mathlib.Omega.{arith}
use borrow.Author.Tests.{eq-eqb, ne_eqb}
use Rattle.book.specs.Question.{gable_column}
use Rattle.book.proofs.Columns.{flank-below}
use Rattle.book.proofs.question.gable_column.Goals as goal

pub returns-then-wind-eq0 : goal.returns-then-wind-eq0
unfolding gable_column
returns-then-wind-eq0 c = rw (eq-eqb c.args.wind 0 c.if-wind-eq0.true) c.half_of.ensures

pub overflow_add-result : goal.overflow_add-result
overflow_add-result c = omega (arith, c.flank_of.ensures, flank-below c.args.zone)

pub returns : goal.returns
unfolding gable_column
returns c =
    rw (ne_eqb c.args.wind 0 c.if-wind-eq0.false) (ap (λ (n : ℕ). 2 + n) c.flank_of.ensures)
