-- `open`: what was read, as a worksheet.
use mathlib.Core.Path.{◌≡◌, refl, ap, ◌∙◌}
use Rattle.job.specs.Walk.{Reading, Accepted, Refused, judged}
use Rattle.sheet.specs.declared.read.Read.{Read}
use Rattle.sheet.specs.Sheet.{reading, answer}
use Rattle.worst.specs.Stored.{stored_in}
use Rattle.worksheet.specs.Worksheet.{opened}
use Rattle.worksheet.proofs.OpenedSums.{opened-reckoned}
use Rattle.worksheet.proofs.open.Goals as goal

held-is : (x : Reading)
    → record {
      verdict = (answer x).verdict;
      worksheet = record { job = (answer x).job; sums = (opened x).worksheet.sums };
    }
    ≡ opened x
held-is (Accepted c) = refl
held-is (Refused v) = refl

pub returns : goal.returns
returns c =
    let s = c.args.s.now in
    let e = c.read_sheet-read.ensures in
    let sums = c.sums_of-sums.ensures ∙ ap (λ (x : Read). stored_in (judged x.job)) e ∙ opened-reckoned s in
    (λ i. record { verdict = (e i).verdict; worksheet = record { job = (e i).job; sums = sums i } })
    ∙ held-is (reading s)
