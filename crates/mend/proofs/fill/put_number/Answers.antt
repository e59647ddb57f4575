-- `put_all_lem::put_number` meets its contract.
use Rattle.page.proofs.Put.{put-past}
use Rattle.mend.proofs.fill.put_number.Goals as goal

pub returns : goal.returns
returns c = put-past c.args.list.now c.args.at _ c.if-at-list.false
