-- `no_account` meets its contract.
use lib.IntN.{pos}
use Rattle.account.proofs.no_account.Goals as goal

pub returns : goal.returns
returns c =
    λ i. record {
      verdict = c.args.v;
      zone = 0;
      alternative = 0;
      rows = c.no_rows-rows.ensures i;
      outside = pos 0;
      net = pos 0;
      speed = pos 0;
      pressure = pos 0;
      area = pos 0;
      force = pos 0;
      newtons = pos 0;
    }
