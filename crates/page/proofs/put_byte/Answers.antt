-- `put_byte` meets its contract.
use Rattle.page.proofs.Put.{put-past}
use Rattle.page.proofs.put_byte.Goals as goal

pub returns : goal.returns
returns c = put-past c.args.buf.now c.args.at _ c.if-at-buf.false
