-- `sums::moved_cell`: the three axes.
use Rattle.worksheet.proofs.sums.moved_cell.Goals as goal

pub returns : goal.returns
returns c =
    λ j. record {
      x = c.moved_span-x.ensures j;
      y = c.moved_span-y.ensures j;
      z = c.moved_span-z.ensures j;
    }
