-- `sums::moved_span`: the greatest and the least.
use Rattle.worksheet.proofs.sums.moved_span.Goals as goal

pub returns : goal.returns
returns c = λ j. record { greatest = c.moved_pair-greatest.ensures j; least = c.moved_pair-least.ensures j }
