-- `question::both_signs`: the number and its opposite.
use mathlib.Core.Path.{ap₂, ◌∙◌}
use lib.IntN.{pos, neg_ℤ, +ℤ_idl}
use mir.Syntax.{w32}
use Rattle.whole.proofs.Size.{Num, fit, param≤, num, back, ◌⊖◌}
use Rattle.book.specs.declared.Values.TheVariants.{Two}
use Rattle.book.proofs.question.both_signs.Goals.{Start}
use Rattle.book.proofs.question.both_signs.Goals as goal

abbrev given : Start → Num
given c = param≤ {w = w32} {z = c.args.v} {k = 2500} c.ranges.v c.requires

pub overflow_sub-result : goal.overflow_sub-result
overflow_sub-result c = fit (num (pos 0) ⊖ given c) tt

pub returns : goal.returns
returns c = ap₂ Two (given c).same ((back w32 (num (pos 0) ⊖ given c) tt).same ∙ +ℤ_idl (neg_ℤ c.args.v))
