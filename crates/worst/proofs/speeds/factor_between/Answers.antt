-- `speeds::factor_between` meets its contract: each number is built as the code builds it, with the most that it is in
-- size.
use lib.IntN.{pos}
use mir.Syntax.{w64}
use Rattle.whole.proofs.Size.{Num, num, num≤, back, fit, ◌⊕◌, ◌⊖◌, ◌⊗◌}
use Rattle.entry.specs.declared.Step.{Step}
use Rattle.worst.specs.Factors.{StepSmall}
use Rattle.worst.proofs.speeds.factor_between.Goals.{Start}
use Rattle.worst.proofs.speeds.factor_between.Goals as goal

abbrev height_of : (s : Step) → StepSmall s → Num
height_of s h = back w64 (num≤ s.height h.height) tt

abbrev factor_of : (s : Step) → StepSmall s → Num
factor_of s h = back w64 (num≤ s.factor h.factor) tt

module _ (a : Start) where
  abbrev height : Num
  height = back w64 (num≤ a.args.height a.requires.2) tt

  abbrev above : Num
  above = height_of a.args.t a.requires.1 ⊖ height

  abbrev lower : Num
  lower = factor_of a.args.s a.requires.0 ⊗ back w64 above tt

  abbrev below : Num
  below = height ⊖ height_of a.args.s a.requires.0

  abbrev upper : Num
  upper = factor_of a.args.t a.requires.1 ⊗ back w64 below tt

  abbrev part : Num
  part = back w64 lower tt ⊕ back w64 upper tt

  abbrev gap : Num
  gap = height_of a.args.t a.requires.1 ⊖ height_of a.args.s a.requires.0

  abbrev whole : Num
  whole = num (pos 1000) ⊗ back w64 gap tt

pub overflow_sub-result : goal.overflow_sub-result
overflow_sub-result c = fit {w = w64} (above (goal.at.overflow_sub-result c).Start) tt

pub overflow_mul-result : goal.overflow_mul-result
overflow_mul-result c = fit {w = w64} (lower (goal.at.overflow_mul-result c).Start) tt

pub overflow_sub-result-2 : goal.overflow_sub-result-2
overflow_sub-result-2 c = fit {w = w64} (below (goal.at.overflow_sub-result-2 c).Start) tt

pub overflow_mul-result-2 : goal.overflow_mul-result-2
overflow_mul-result-2 c = fit {w = w64} (upper (goal.at.overflow_mul-result-2 c).Start) tt

pub overflow_add-result : goal.overflow_add-result
overflow_add-result c = fit {w = w64} (part (goal.at.overflow_add-result c).Start) tt

pub overflow_sub-result-3 : goal.overflow_sub-result-3
overflow_sub-result-3 c = fit {w = w64} (gap (goal.at.overflow_sub-result-3 c).Start) tt

pub overflow_mul-result-3 : goal.overflow_mul-result-3
overflow_mul-result-3 c = fit {w = w64} (whole (goal.at.overflow_mul-result-3 c).Start) tt

pub returns : goal.returns
returns c =
    let at_start = (goal.at.returns c).Start in
    λ j. record { part = (back w64 (part at_start) tt).same j; whole = (back w64 (whole at_start) tt).same j }
