-- `sums::moved_pair`: one is taken away, and then one added.
use mathlib.Core.Path.{ap, ◌∙◌}
use Rattle.pair.specs.Total.{pair_sum}
use Rattle.worksheet.proofs.sums.moved_pair.Goals as goal

pub returns : goal.returns
returns c =
    c.sum.ensures ∙ ap (λ p. pair_sum p c.args.new) c.difference-less.ensures
