-- `few_tops::with_few_sums` meets its contract: on each axis.
use Rattle.worst.proofs.Kept.{every-axis}
use Rattle.worst.proofs.few_tops.with_few_sums.Goals as goal

pub returns : goal.returns
returns c =
    every-axis _ c.with_few_axis-x.ensures c.with_few_axis-y.ensures c.with_few_axis-z.ensures
