-- `question::flat_column`: by the definition's own tests.
use Rattle.book.specs.Question.{flat_column}
use Rattle.whole.proofs.Tests.{tests}
use Rattle.book.proofs.question.flat_column.Goals as goal

pub returns-then-place-eq69 : goal.returns-then-place-eq69
unfolding flat_column
returns-then-place-eq69 c = search tests

pub returns-then-place-eq70 : goal.returns-then-place-eq70
unfolding flat_column
returns-then-place-eq70 c = search tests

pub returns-then-place-eq49 : goal.returns-then-place-eq49
unfolding flat_column
returns-then-place-eq49 c = search tests

pub returns : goal.returns
unfolding flat_column
returns c = search tests
