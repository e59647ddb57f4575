-- `question::net_cited`: the rows and the fraction stay.
use mathlib.Core.Path.{ap}
use lib.IntN.{ℤ}
use Rattle.whole.proofs.Size.{said}
use Rattle.book.specs.declared.Values.{Values}
use Rattle.book.specs.declared.Cited.{Cited}
use Rattle.book.specs.Question.{minus}
use Rattle.book.proofs.question.net_cited.Goals as goal

pub returns : goal.returns
returns c =
    let a = c.args.c in
    let with : Values → Cited =
    λ v. record { values = v; lower = a.lower; upper = a.upper; part = a.part; whole = a.whole } in
    ap with (said (λ (z : ℤ). minus a.values z) c.args.internal c.minus.ensures c.ranges.internal.sfits)
