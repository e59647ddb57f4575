-- `sums::kept`: moved where all are within their bounds, and reckoned anew where one is not.
use mathlib.Core.Path.{◌≡◌, sym, ◌∙◌}
use Rattle.whole.proofs.Size.{said}
use Rattle.worst.specs.Within.{most_newtons, all_within}
use Rattle.worksheet.proofs.sums.kept.Goals.{After-all_within}
use Rattle.worksheet.proofs.sums.kept.Goals as goal

tested : (c : After-all_within) → let a = c.args in
    c.all_within.result ≡ all_within (most_newtons a.after.year) a.held.cell
tested c =
    let a = c.args in
    said (λ y. all_within (most_newtons y) a.held.cell) a.after.year c.all_within.ensures
    c.struct_told-1.given.0.1

pub returns-then-all_within : goal.returns-then-all_within
returns-then-all_within c =
    let at_all_within = (goal.at.returns-then-all_within c).After-all_within in
    c.moved.ensures ∙ rw (sym (tested at_all_within) ∙ c.if-all_within.true)

pub returns : goal.returns
returns c =
    c.sums_of.ensures ∙ rw (sym (tested (goal.at.returns c).After-all_within) ∙ c.if-all_within.false)
