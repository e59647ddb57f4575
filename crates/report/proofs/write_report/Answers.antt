-- `write_report` meets its contract: the job's own refusal, or its report.
use Rattle.worst.specs.Worst.{worst_of}
use Rattle.report.proofs.Lengths.{as-report, report-printable}
use Rattle.report.proofs.Reports.{judged-sound, prints, wrote, unwritten}
use Rattle.report.proofs.write_report.Goals as goal

pub write_six-requires : goal.write_six-requires
unfolding worst_of
write_six-requires c = prints as-report (judged-sound c.args.j) c.worst_cases.ensures report-printable c.in_ok-w.was

pub returns-in_err-w : goal.returns-in_err-w
unfolding worst_of
returns-in_err-w c =
    unwritten as-report (judged-sound c.args.j) c.worst_cases.ensures c.in_err-w.was c.args.buf.now
    c.from_residual.ensures.1

pub returns : goal.returns
unfolding worst_of
returns c =
    wrote as-report (judged-sound c.args.j) c.worst_cases.ensures c.in_ok-w.was c.args.buf.now c.write_six.ensures
