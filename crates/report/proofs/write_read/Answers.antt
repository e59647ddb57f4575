-- `write_read` meets its contract: the sheet's own refusal, or its report.
use Rattle.report.proofs.Lengths.{as-report, report-printable}
use Rattle.report.proofs.Reports.{reading-sound, prints, wrote, unwritten}
use Rattle.report.proofs.write_read.Goals as goal

pub write_six-requires : goal.write_six-requires
write_six-requires c = prints as-report (reading-sound c.args.s.now) c.worst_in.ensures report-printable c.in_ok-w.was

pub returns-in_err-w : goal.returns-in_err-w
returns-in_err-w c =
    unwritten as-report (reading-sound c.args.s.now) c.worst_in.ensures c.in_err-w.was c.args.buf.now
    c.from_residual.ensures.1

pub returns : goal.returns
returns c =
    wrote as-report (reading-sound c.args.s.now) c.worst_in.ensures c.in_ok-w.was c.args.buf.now c.write_six.ensures
