-- `question::roof_column`: the table is the kind's.
use borrow.Author.Tests.{eq-eqb, ne_eqb}
use Rattle.book.specs.Question.{roof_column}
use Rattle.book.proofs.question.roof_column.Goals as goal

pub returns-then-kind-eq1 : goal.returns-then-kind-eq1
unfolding roof_column
returns-then-kind-eq1 c = rw (eq-eqb c.args.kind 1 c.if-kind-eq1.true) c.gable_column.ensures

pub returns-then-kind-eq6 : goal.returns-then-kind-eq6
unfolding roof_column
returns-then-kind-eq6 c =
    let kind = c.args.kind in
    rw (ne_eqb kind 1 c.if-kind-eq1.false, eq-eqb kind 6 c.if-kind-eq6.true) c.single_column.ensures

pub returns : goal.returns
unfolding roof_column
returns c =
    let kind = c.args.kind in
    rw (ne_eqb kind 1 c.if-kind-eq1.false, ne_eqb kind 6 c.if-kind-eq6.false) c.flat_column.ensures
