-- `write_plain` meets its contract: the job's own refusal, 10, or its report.
use Rattle.plain.specs.Plain.{plain_of}
use Rattle.report.proofs.Lengths.{as-report, report-printable}
use Rattle.report.proofs.Reports.{plain-sound, prints, wrote, unwritten}
use Rattle.report.proofs.write_plain.Goals as goal

pub write_six-requires : goal.write_six-requires
unfolding plain_of
write_six-requires c = prints as-report (plain-sound c.args.j) c.plain_cases.ensures report-printable c.in_ok-w.was

pub returns-in_err-w : goal.returns-in_err-w
unfolding plain_of
returns-in_err-w c =
    unwritten as-report (plain-sound c.args.j) c.plain_cases.ensures c.in_err-w.was c.args.buf.now
    c.from_residual.ensures.1

pub returns : goal.returns
unfolding plain_of
returns c =
    wrote as-report (plain-sound c.args.j) c.plain_cases.ensures c.in_ok-w.was c.args.buf.now c.write_six.ensures
