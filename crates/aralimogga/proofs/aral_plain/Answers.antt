-- `aral_plain`: the refusal of what was read, 10, or the text of the job that it carries.
use mathlib.Core.Path.{refl, ◌∙◌}
use Rattle.plain.specs.Plain.{plainly}
use Rattle.report.specs.Report.{report_text}
use Rattle.aralimogga.proofs.Readings.{text-refused, text-accepted}
use Rattle.aralimogga.proofs.aral_plain.Goals as goal

pub returns-then-walked-ne0 : goal.returns-then-walked-ne0
returns-then-walked-ne0 c =
    let a = c.args in
    let u =
    text-refused a.sheet.now c.read_sheet-walked.result c.read_sheet-walked.ensures plainly (λ v. refl) report_text
    a.out.now c.if-walked-ne0.true in
    (c.no_text.ensures ∙ u.0, u.1)

pub returns : goal.returns
returns c =
    let a = c.args in
    text-accepted a.sheet.now c.read_sheet-walked.result c.read_sheet-walked.ensures plainly (λ v. refl) report_text
    a.out.now c.if-walked-ne0.false c.text_of.ensures c.write_plain.ensures
