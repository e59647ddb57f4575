-- `taken`: the job after the edit, with the sums that are kept.
use Rattle.worksheet.proofs.taken.Goals as goal

pub returns : goal.returns
returns c =
    let to = c.args.to in
    λ i. record { verdict = to.verdict; worksheet = record { job = to.job; sums = c.kept-sums.ensures i } }
