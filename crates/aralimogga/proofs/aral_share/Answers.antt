-- `aral_share`: the refusal of what was read, or the account of a face of the job that it carries.
use mathlib.Core.Path.{◌∙◌}
use lib.IntN.{ℤ}
use Rattle.whole.proofs.Size.{said₂}
use Rattle.job.specs.Walk.{judged}
use Rattle.account.specs.Account.{account_of}
use Rattle.aralimogga.proofs.Readings.{account-refused, account-accepted}
use Rattle.aralimogga.proofs.aral_share.Goals as goal

pub returns-then-shared-ne0 : goal.returns-then-shared-ne0
returns-then-shared-ne0 c =
    let a = c.args in
    c.no_account.ensures
    ∙ account-refused a.sheet.now c.read_sheet-shared.result c.read_sheet-shared.ensures a.line a.face
    c.if-shared-ne0.true

pub returns : goal.returns
returns c =
    let a = c.args in
    let j = c.read_sheet-shared.result.job in
    said₂ (λ (y z : ℤ). account_of (judged j) y z) a.line a.face c.account_of.ensures c.ranges.line.sfits
    c.ranges.face.sfits
    ∙ account-accepted a.sheet.now c.read_sheet-shared.result c.read_sheet-shared.ensures a.line a.face
    c.if-shared-ne0.false
