-- `refusals::line_of`: the lines before the faces, counted; a job in order has few.
-- by the year
use mathlib.Core.Path.{◌≡◌, sym, ◌∙◌}
use native.Mathlib.Omega.{arith}
use Rattle.whole.proofs.Size.{said}
use Rattle.building.specs.Year.{has_heights}
use Rattle.edits.proofs.Counts.{few-winds, few-internals, few-steps}
use Rattle.edits.proofs.Line.{line-is}
use Rattle.edits.proofs.refusals.line_of.Goals.{After-has_heights, Start}
use Rattle.edits.proofs.refusals.line_of.Goals as goal

module _ (c : After-has_heights) where
  abbrev start : Start
  start = (goal.at.After-has_heights c).Start

  heights-are : c.has_heights.result ≡ has_heights start.args.j.year
  heights-are = said has_heights start.args.j.year c.has_heights.ensures c.struct_told-1.given.0.1

-- no sum is large
pub overflow_add-plain-2 : goal.overflow_add-plain-2
overflow_add-plain-2 c = omega (arith, few-winds c.args.j c.requires.0)

pub overflow_add-plain-3 : goal.overflow_add-plain-3
overflow_add-plain-3 c = omega (arith, few-winds c.args.j c.requires.0)

pub overflow_add-plain-4 : goal.overflow_add-plain-4
overflow_add-plain-4 c =
    omega (arith, few-winds c.args.j c.requires.0, few-internals c.args.j c.requires.0)

pub overflow_add-plain-5 : goal.overflow_add-plain-5
overflow_add-plain-5 c =
    omega (arith, few-winds c.args.j c.requires.0, few-internals c.args.j c.requires.0)

pub overflow_add-plain-6 : goal.overflow_add-plain-6
overflow_add-plain-6 c =
    omega (arith, few-winds c.args.j c.requires.0, few-internals c.args.j c.requires.0, c.requires.1)

pub overflow_add-result : goal.overflow_add-result
overflow_add-result c =
    omega (arith, few-winds c.args.j c.requires.0, few-internals c.args.j c.requires.0, c.requires.1)

pub overflow_add-result-then-has_heights : goal.overflow_add-result-then-has_heights
overflow_add-result-then-has_heights c =
    omega (arith, few-winds c.args.j c.requires.0, few-internals c.args.j c.requires.0, c.requires.1)

pub overflow_add-result-then-has_heights-2 : goal.overflow_add-result-then-has_heights-2
overflow_add-result-then-has_heights-2 c =
    let at_has_heights = (goal.at.overflow_add-result-then-has_heights-2 c).After-has_heights in
    let h = sym (heights-are at_has_heights) ∙ c.if-has_heights.true in
    omega (
      arith,
      few-winds c.args.j c.requires.0,
      few-internals c.args.j c.requires.0,
      few-steps c.args.j c.requires.0 h,
      c.requires.1,
    )

pub returns-then-has_heights : goal.returns-then-has_heights
returns-then-has_heights c =
    let at_has_heights = (goal.at.returns-then-has_heights c).After-has_heights in
    sym (line-is c.args.j c.args.k _ (sym (heights-are at_has_heights) ∙ c.if-has_heights.true))

pub returns : goal.returns
returns c =
    let at_has_heights = (goal.at.returns c).After-has_heights in
    sym (line-is c.args.j c.args.k _ (sym (heights-are at_has_heights) ∙ c.if-has_heights.false))
