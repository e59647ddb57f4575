-- `faults::out_of_form`: each number is read back as it is, and asked in the line's order.
use borrow.Author.Rules.{rules}
use borrow.Author.Tests.{tests}
use mathlib.Core.Bool.{Bool}
use Rattle.std.proofs.lemmas.Iterator.{YieldsList-from_slice}
use Rattle.std.proofs.lemmas.Iterator.Search.{any_from_yields_List}
use Rattle.building.specs.Test.{too_long}
use Rattle.building.specs.Building.{out_of_form}
use Rattle.whole.proofs.Size.{said}
use Rattle.building.proofs.Six.{any_same}
use Rattle.building.proofs.faults.out_of_form.Goals as goal

pub returns : goal.returns
unfolding out_of_form
returns c =
    let g = c.args.g in
    let bounds = c.struct_told-6-1.given in
    let found =
    any_from_yields_List (λ (t : Bool). t) _ _ c.any.result c.any.ensures.ran
    (YieldsList-from_slice _ c.iter.ensures.rest) (λ x b q k. search (rules, tests)) in
    any_same found
    (said too_long g.h c.too_long.ensures bounds.0.1)
    (said too_long g.a c.too_long-2.ensures bounds.1.0.1)
    (said too_long g.b c.too_long-3.ensures bounds.1.1.0.1)
    (said too_long g.density c.too_long-4.ensures bounds.1.1.1.0.1)
    (said too_long g.kind c.too_long-5.ensures bounds.1.1.1.1.0.1)
    (said too_long g.x c.too_long-6.ensures bounds.1.1.1.1.1.0.1)
