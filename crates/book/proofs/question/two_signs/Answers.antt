-- `question::two_signs`: by the definition's own tests.
use Rattle.whole.proofs.Tests.{tests}
use Rattle.book.specs.Question.{two_signs}
use Rattle.book.proofs.question.two_signs.Goals as goal

pub returns-then-kind-lt2 : goal.returns-then-kind-lt2
unfolding two_signs
returns-then-kind-lt2 c = search tests

pub returns-then-kind-gt5 : goal.returns-then-kind-gt5
unfolding two_signs
returns-then-kind-gt5 c = search tests

pub returns : goal.returns
unfolding two_signs
returns c = search tests
