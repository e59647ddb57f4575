-- `question::wall_column`: by the definition's own tests; a letter is not below A.
use Rattle.whole.proofs.Tests.{tests}
use Rattle.book.specs.Question.{wall_column}
use Rattle.book.proofs.Columns.{wall-letter}
use Rattle.book.proofs.question.wall_column.Goals as goal

pub returns-then-place-eq119 : goal.returns-then-place-eq119
unfolding wall_column
returns-then-place-eq119 c = search tests

pub overflow_sub-result : goal.overflow_sub-result
overflow_sub-result c = (wall-letter c.args.place c.requires c.if-place-eq119.false).0

pub returns-then-wind-eq0 : goal.returns-then-wind-eq0
unfolding wall_column
returns-then-wind-eq0 c = search tests

pub overflow_sub-result-2 : goal.overflow_sub-result-2
overflow_sub-result-2 c = (wall-letter c.args.place c.requires c.if-place-eq119.false).0

pub returns : goal.returns
unfolding wall_column
returns c = search tests
