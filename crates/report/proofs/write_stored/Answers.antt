-- `write_stored` meets its contract: the job's own refusal, or the six lines that stored sums tell.
use Rattle.report.proofs.Lengths.{as-stored, stored-printable}
use Rattle.report.proofs.Reports.{judged-sound, prints, wrote, unwritten}
use Rattle.report.proofs.write_stored.Goals as goal

pub write_six-requires : goal.write_six-requires
write_six-requires c = prints (as-stored c.args.stored) (judged-sound c.args.j) c.worst_stored.ensures (stored-printable c.args.stored) c.in_ok-w.was

pub returns-in_err-w : goal.returns-in_err-w
returns-in_err-w c =
    unwritten (as-stored c.args.stored) (judged-sound c.args.j) c.worst_stored.ensures c.in_err-w.was c.args.buf.now
    c.from_residual.ensures.1

pub returns : goal.returns
returns c =
    wrote (as-stored c.args.stored) (judged-sound c.args.j) c.worst_stored.ensures c.in_ok-w.was c.args.buf.now c.write_six.ensures
