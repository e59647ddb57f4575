-- `year_refusal`: the year is read back as it is.
use mathlib.Core.Path.{◌≡◌, sym, ◌∙◌}
use Rattle.building.specs.Year.{is_year}
use Rattle.whole.proofs.Size.{said}
use Rattle.building.proofs.year_refusal.Goals.{After-is_year}
use Rattle.building.proofs.year_refusal.Goals as goal

tested : (c : After-is_year) → c.is_year.result ≡ is_year c.args.year
tested c = said is_year c.args.year c.is_year.ensures c.ranges.year.sfits

pub returns-then-is_year : goal.returns-then-is_year
returns-then-is_year c = rw (sym (tested (goal.at.returns-then-is_year c).After-is_year) ∙ c.if-is_year.true)

pub returns : goal.returns
returns c = rw (sym (tested (goal.at.returns c).After-is_year) ∙ c.if-is_year.false)
