-- `given_fault`: a building in order has no number that is too long; of another the length comes first.
use mathlib.Core.Path.{sym, ◌∙◌}
use Rattle.building.specs.Building.{given_fault}
use Rattle.building.proofs.Accepted.{given-none}
use Rattle.building.proofs.given_fault.Goals as goal

pub returns-then-fault-eq0 : goal.returns-then-fault-eq0
returns-then-fault-eq0 c =
    let d = c.args.d in
    sym (given-none d.year d.building (sym c.building_fault-fault.ensures ∙ c.if-fault-eq0.true))

pub returns-then-out_of_form : goal.returns-then-out_of_form
unfolding given_fault
returns-then-out_of_form c = rw (sym c.out_of_form.ensures ∙ c.if-out_of_form.true)

pub returns : goal.returns
unfolding given_fault
returns c =
    rw (sym c.out_of_form.ensures ∙ c.if-out_of_form.false) c.building_fault-fault.ensures
