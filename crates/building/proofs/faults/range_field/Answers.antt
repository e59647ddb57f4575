-- `faults::range_field`: the number of the first of the six tests that holds.
use mathlib.Core.Path.{◌≡◌, sym, ap, ◌∙◌}
use mathlib.Core.Bool.{Bool}
use mathlib.Core.List.{List}
use Prim.Native.Nat.{ℕ}
use borrow.Author.Rules.{rules}
use borrow.Author.Tests.{tests}
use Rattle.std.specs.List.{position_from}
use Rattle.std.proofs.lemmas.Iterator.{YieldsList-from_slice}
use Rattle.std.proofs.lemmas.Iterator.Search.{position_from_yields_List}
use Rattle.std.proofs.lemmas.Iterator.Adapters.{position_from-zero}
use Rattle.building.specs.Fault.{spot_of}
use Rattle.building.specs.Building.{faults}
use Rattle.building.proofs.Six.{numbered, first_of_six}
use Rattle.building.proofs.Tested.{range_field, range-spot}
use Rattle.building.proofs.faults.range_field.Goals.{After-position}
use Rattle.building.proofs.faults.range_field.Goals as goal

field : (c : After-position) → numbered c.position.result ≡ range_field c.args.g
field c =
    let found =
    position_from_yields_List (λ (t : Bool). t) _ _ c.position.result c.position.ensures.ran
    (YieldsList-from_slice _ c.iter.ensures.rest) (λ x b q k. search (rules, tests)) in
    ap numbered (found ∙ position_from-zero (λ (t : Bool). t) c.outside.result)
    ∙ ap (λ (l : List Bool). numbered (position_from (λ t. t) 0 l)) c.outside.ensures
    ∙ first_of_six _ _ _ _ _ _

pub returns-in-Some : goal.returns-in-Some
returns-in-Some c year =
    let g = c.args.g in
    range-spot year g
    ∙ ap (λ (n : ℕ). spot_of n (faults year g))
    (sym (field (goal.at.returns-in-Some c).After-position) ∙ ap numbered c.in-Some.is)

pub returns-in-None : goal.returns-in-None
returns-in-None c year =
    let g = c.args.g in
    range-spot year g
    ∙ ap (λ (n : ℕ). spot_of n (faults year g))
    (sym (field (goal.at.returns-in-None c).After-position) ∙ ap numbered c.in-None.is)
