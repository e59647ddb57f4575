-- `verdict_of` meets its contract: what is read into a list has the same verdict.
use mathlib.Core.Path.{ap, sym, ◌∙◌}
use Rattle.job.specs.Walk.{verdict}
use Rattle.sheet.specs.Sheet.{reading}
use Rattle.sheet.proofs.Answered.{head-accepted, head-refused}
use Rattle.sheet.proofs.read.verdict_of.Goals as goal

pub returns-in-Ok : goal.returns-in-Ok
returns-in-Ok c =
    let told = head-accepted (reading c.args.s.now) (sym c.read_into.ensures.0 ∙ c.in-Ok.is) in
    sym (ap verdict told.1)

pub returns-in-Err : goal.returns-in-Err
returns-in-Err c = sym (ap verdict (head-refused (reading c.args.s.now) (sym c.read_into.ensures.0 ∙ c.in-Err.is)))
