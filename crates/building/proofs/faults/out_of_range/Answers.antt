-- `faults::out_of_range`: whether one of the six tests holds.
use mathlib.Core.Path.{ap, ◌∙◌}
use mathlib.Core.Bool.{Bool}
use mathlib.Core.List.{List}
use borrow.Author.Rules.{rules}
use borrow.Author.Tests.{tests}
use Rattle.std.specs.List.{list_any}
use Rattle.std.proofs.lemmas.Iterator.{YieldsList-from_slice}
use Rattle.std.proofs.lemmas.Iterator.Search.{any_from_yields_List}
use Rattle.building.specs.Building.{out_of_range}
use Rattle.building.proofs.faults.out_of_range.Goals as goal

pub returns : goal.returns
unfolding out_of_range
returns c =
    any_from_yields_List (λ (t : Bool). t) _ _ c.any.result c.any.ensures.ran
    (YieldsList-from_slice _ c.iter.ensures.rest) (λ x b q k. search (rules, tests))
    ∙ ap (λ (l : List Bool). list_any (λ t. t) l) c.outside.ensures
