-- `chosen::picked` meets its contract: the test is on the two products.
-- the products of the first and of the last coefficient
use mathlib.Core.Path.{◌≡◌, sym, ◌∙◌}
use mir.Syntax.{w64}
use lib.IntN.{◌*ℤ◌}
use Rattle.whole.proofs.Size.{Num, back, fit}
use Rattle.worst.specs.Best.{short}
use Rattle.worst.specs.Engine.{which}
use Rattle.worst.proofs.ReadBack.{product}
use Rattle.worst.proofs.chosen.picked.Goals.{After-falls_short, Start}
use Rattle.worst.proofs.chosen.picked.Goals as goal

module _ (a : Start) where
  abbrev first : Num
  first = product a.args.o.first a.args.weight a.requires.0.first a.requires.1

  abbrev last : Num
  last = product a.args.o.last a.args.weight a.requires.0.last a.requires.1

tested : (c : After-falls_short) → let a = c.args in
    c.falls_short.result ≡ short a.side (a.o.first *ℤ a.weight) (a.o.last *ℤ a.weight)
tested c =
    let at_start = (goal.at.After-falls_short c).Start in
    c.falls_short.ensures
    ∙ (λ j. short c.args.side ((back w64 (first at_start) tt).same j) ((back w64 (last at_start) tt).same j))

pub overflow_mul-first : goal.overflow_mul-first
overflow_mul-first c = fit {w = w64} (first (goal.at.overflow_mul-first c).Start) tt

pub overflow_mul-last : goal.overflow_mul-last
overflow_mul-last c = fit {w = w64} (last (goal.at.overflow_mul-last c).Start) tt

pub returns-then-falls_short : goal.returns-then-falls_short
unfolding which
returns-then-falls_short c =
    rw (sym (tested (goal.at.returns-then-falls_short c).After-falls_short) ∙ c.if-falls_short.true)

pub returns : goal.returns
unfolding which
returns c = rw (sym (tested (goal.at.returns c).After-falls_short) ∙ c.if-falls_short.false)
