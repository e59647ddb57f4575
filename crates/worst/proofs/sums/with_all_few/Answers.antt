-- `sums::with_all_few` meets its contract: a call for each axis.
use Rattle.worst.proofs.sums.with_all_few.Goals as goal

pub returns : goal.returns
returns c =
    let gone-x = c.with_few-x.ensures in
    let gone-y = c.with_few-y.ensures in
    let gone-z = c.with_few-z.ensures in (
      (λ j. record { x = gone-x.0 j; y = gone-y.0 j; z = gone-z.0 j }),
      λ n m h k. record {
        x = gone-x.1 n m h.x k.x;
        y = gone-y.1 n m h.y k.y;
        z = gone-z.1 n m h.z k.z;
      },
    )
