-- `write_sheet` meets its contract.
use mathlib.Core.Path.{refl}
use Rattle.sheet_written.proofs.Judged.{job-refused, job-roomed, job-written}
use Rattle.sheet_written.proofs.write_sheet.Goals as goal

pub returns-then-v-ne0 : goal.returns-then-v-ne0
returns-then-v-ne0 c =
    job-refused c.args.j c.judge-v.result c.judge-v.ensures c.if-v-ne0.true c.args.buf.now

pub put_sheet-n-requires : goal.put_sheet-n-requires
put_sheet-n-requires c =
    job-roomed c.args.j c.judge-v.result c.judge-v.ensures c.if-v-ne0.false

pub returns : goal.returns
returns c =
    job-written c.args.j c.judge-v.result c.judge-v.ensures c.if-v-ne0.false c.put_sheet-n.ensures refl
    c.args.buf.now c.emit.ensures
