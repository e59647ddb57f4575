-- `write_totals` meets its contract: what is read is refused in one line, or reported.
use mathlib.Core.Path.{sym, ap, ◌∙◌}
use Rattle.page.specs.Writing.{writing, buffer_after}
use Rattle.job.specs.Walk.{Reading}
use Rattle.sheet.specs.Sheet.{job_writing, job_buffer}
use Rattle.report.specs.Report.{report_text, totals_text}
use Rattle.report.proofs.Lengths.{as-report, report-printable}
use Rattle.report.proofs.Reports.{reading-sound, prints, wrote, refuses-as, accepts-as}
use Rattle.report.proofs.write_totals.Goals as goal

pub write_six-requires : goal.write_six-requires
write_six-requires c = prints as-report (reading-sound c.args.s.now) c.worst_in.ensures report-printable c.in-Ok.is

pub returns-in-Ok : goal.returns-in-Ok
returns-in-Ok c =
    let buf = c.args.buf.now in
    let sound = reading-sound c.args.s.now in
    let is = wrote as-report sound c.worst_in.ensures c.in-Ok.is buf c.write_six.ensures in
    let e = (accepts-as as-report sound c.worst_in.ensures c.in-Ok.is).1 in (
      is.0 ∙ ap (λ (x : Reading). job_writing report_text x buf) e
          ∙ sym (ap (λ (x : Reading). writing (totals_text x) buf) e),
      is.1 ∙ ap (λ (x : Reading). job_buffer report_text x buf) e
          ∙ sym (ap (λ (x : Reading). buffer_after (totals_text x) buf) e),
    )

pub returns-in-Err : goal.returns-in-Err
returns-in-Err c =
    let buf = c.args.buf.now in
    let e = refuses-as as-report (reading-sound c.args.s.now) c.worst_in.ensures c.in-Err.is in (
      c.write_refused.ensures.0 ∙ sym (ap (λ (x : Reading). writing (totals_text x) buf) e),
      c.write_refused.ensures.1 ∙ sym (ap (λ (x : Reading). buffer_after (totals_text x) buf) e),
    )
