-- `panel_of_newtons`: the two ways are the two clauses of `panel_of_newtons`.
use mathlib.Core.Path.{◌≡◌, ap, ◌∙◌}
use native.Mathlib.Omega.{arith}
use lib.IntN.{ℤ, pos, ◌+ℤ◌}
use Rattle.whole.proofs.Size.{said}
use Rattle.panel.specs.declared.Panel.TheVariants.{Between}
use Rattle.panel.specs.Bracket.{panel_of}
use Rattle.panel.specs.Chart.{low_of, high_of}
use Rattle.panel.proofs.Apart.{nothing_left, something-left}
use Rattle.panel.proofs.newtons.panel_of_newtons.Goals.{After-panel_of-here}
use Rattle.panel.proofs.newtons.panel_of_newtons.Goals as goal

here : (c : After-panel_of-here) → c.panel_of-here.result ≡ panel_of c.args.newtons
here c = said panel_of c.args.newtons c.panel_of-here.ensures c.ranges.newtons.sfits

pub returns-then-remainder-eq0 : goal.returns-then-remainder-eq0
returns-then-remainder-eq0 c =
    let at_panel_of_here = (goal.at.returns-then-remainder-eq0 c).After-panel_of-here in
    let a = c.args in
    here at_panel_of_here ∙ nothing_left a.newtons a.remainder (omega arith)

pub returns : goal.returns
returns c =
    let low = c.low.ensures ∙ ap low_of (here (goal.at.returns c).After-panel_of-here) in
    let next = said (λ (z : ℤ). panel_of (z +ℤ pos 1)) c.args.newtons c.panel_of_next-next.ensures
    c.ranges.newtons.sfits in
    let high = c.high.ensures ∙ ap high_of next in
    (λ i. Between (low i) (high i)) ∙ something-left c.args.newtons c.args.remainder (omega arith)
