-- `keep::further` meets its contract: each arm is the test of its side.
use mathlib.Core.Path.{sym, ap, ◌∙◌}
use Rattle.worst.specs.declared.Side.{Side}
use Rattle.plain.specs.Walked.{short_of}
use Rattle.plain.proofs.keep.further.Goals as goal

pub returns-in-Greatest : goal.returns-in-Greatest
returns-in-Greatest c =
    let a = c.args in
    c.less.ensures ∙ ap (λ (s : Side). short_of s a.earlier a.later) (sym c.in-Greatest.is)

pub returns-in-Least : goal.returns-in-Least
returns-in-Least c =
    let a = c.args in
    c.less-in-Least.ensures ∙ ap (λ (s : Side). short_of s a.earlier a.later) (sym c.in-Least.is)
