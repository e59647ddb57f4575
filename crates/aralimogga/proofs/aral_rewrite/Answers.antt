-- `aral_rewrite`: the refusal of what was read, or the text of the job that it carries.
use mathlib.Core.Path.{refl, ◌∙◌}
use Rattle.sheet.specs.Sheet.{sheet_text}
use Rattle.aralimogga.proofs.Readings.{text-refused, text-accepted}
use Rattle.aralimogga.proofs.aral_rewrite.Goals as goal

pub returns-then-read-ne0 : goal.returns-then-read-ne0
returns-then-read-ne0 c =
    let a = c.args in
    let u =
    text-refused a.sheet.now c.read_sheet-read.result c.read_sheet-read.ensures (λ x. x) (λ v. refl) sheet_text
    a.out.now c.if-read-ne0.true in
    (c.no_text.ensures ∙ u.0, u.1)

pub returns : goal.returns
returns c =
    let a = c.args in
    text-accepted a.sheet.now c.read_sheet-read.result c.read_sheet-read.ensures (λ x. x) (λ v. refl) sheet_text
    a.out.now c.if-read-ne0.false c.text_of.ensures c.write_sheet.ensures
