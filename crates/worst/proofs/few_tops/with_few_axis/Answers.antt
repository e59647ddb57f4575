-- `few_tops::with_few_axis` meets its contract: each side is at the internal coefficient that it takes at the weight.
-- the totals, as the code makes them
use mathlib.Core.Path.{◌≡◌, sym, ap, ◌∙◌, subst}
use mir.Syntax.{w64}
use Rattle.whole.proofs.Size.{Num, num≤, back, fit, ◌⊖◌, ◌⊗◌}
use Rattle.worst.specs.declared.inside.Sides.{Sides}
use Rattle.worst.specs.declared.Side.{Side}
use Rattle.worst.specs.declared.Side.TheVariants.{Greatest, Least}
use Rattle.worst.specs.Best.{Best, at, better}
use Rattle.worst.specs.Engine.{Cell, cell, few_top_of, end_of}
use Rattle.worst.specs.Few.{few_in}
use Rattle.worst.specs.Inside.{sides_of, cell_at, furthest_cell, InsideSmall}
use Rattle.worst.proofs.Kept.{either}
use Rattle.worst.proofs.InsideSides.{sides-small}
use Rattle.worst.proofs.few_tops.with_few_axis.Goals.{After-sides_at-two, Start}
use Rattle.worst.proofs.few_tops.with_few_axis.Goals as goal

module _ (c : After-sides_at-two) where
  abbrev a : Start
  a = (goal.at.After-sides_at-two c).Start

  abbrev weight : Num
  weight = back w64 (num≤ a.args.sums.weight a.requires.1.weight) tt

  two : c.sides_at-two.result ≡ sides_of a.args.insides a.args.sums.weight
  two = c.sides_at-two.ensures ∙ ap (sides_of a.args.insides) weight.same

  small : InsideSmall c.sides_at-two.result.up × InsideSmall c.sides_at-two.result.down
  small =
      subst (λ (t : Sides). InsideSmall t.up × InsideSmall t.down) (sym two)
      (sides-small a.args.insides a.args.sums.weight a.requires.2)

  abbrev raised : Num
  raised = back w64 (num≤ c.sides_at-two.result.up.part small.0) tt ⊗ weight

  abbrev lowered : Num
  lowered = back w64 (num≤ c.sides_at-two.result.down.part small.1) tt ⊗ weight

  abbrev most : Num
  most = back w64 (num≤ a.args.sums.greatest a.requires.1.greatest) tt ⊖ back w64 raised tt

  abbrev fewest : Num
  fewest = back w64 (num≤ a.args.sums.least a.requires.1.least) tt ⊖ back w64 lowered tt

pub overflow_mul-most : goal.overflow_mul-most
overflow_mul-most c = fit {w = w64} (raised (goal.at.overflow_mul-most c).After-sides_at-two) tt

pub overflow_sub-most : goal.overflow_sub-most
overflow_sub-most c = fit {w = w64} (most (goal.at.overflow_sub-most c).After-sides_at-two) tt

pub overflow_mul-fewest : goal.overflow_mul-fewest
overflow_mul-fewest c = fit {w = w64} (lowered (goal.at.overflow_mul-fewest c).After-sides_at-two) tt

pub overflow_sub-fewest : goal.overflow_sub-fewest
overflow_sub-fewest c = fit {w = w64} (fewest (goal.at.overflow_sub-fewest c).After-sides_at-two) tt

pub returns : goal.returns
returns c =
    let at_sides_at_two = (goal.at.returns c).After-sides_at-two in
    let s = c.args in
    let r = c.sides_at-two.result in
    let from : (side : Side) → Best Cell → Best Cell = λ side. better side (few_top_of (end_of side s.tops)) in
    either
    (λ side.
    few_top_of (end_of side (record { greatest = c.kept-greatest.result; least = c.kept-least.result }))
    ≡ from side (furthest_cell side (few_in s.sums) s.insides s.wind))
    (c.kept-greatest.ensures.0
    ∙ (λ j. from Greatest (at ((back w64 (most at_sides_at_two) tt).same j) (cell s.wind r.up.number)))
    ∙ (λ j. from Greatest (cell_at s.sums.greatest s.sums.weight s.wind (two at_sides_at_two j).up)))
    (c.kept-least.ensures.0
    ∙ (λ j. from Least (at ((back w64 (fewest at_sides_at_two) tt).same j) (cell s.wind r.down.number)))
    ∙ (λ j. from Least (cell_at s.sums.least s.sums.weight s.wind (two at_sides_at_two j).down)))
