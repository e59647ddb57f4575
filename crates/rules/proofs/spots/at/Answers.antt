-- `spots::at`: by the definition's own test.
use borrow.Author.Tests.{eq-eqb, ne_eqb}
use Rattle.whole.proofs.Size.{said₂}
use Rattle.building.specs.Fault.{ranged}
use Rattle.rules.proofs.spots.at.Goals as goal

pub returns-then-field-own : goal.returns-then-field-own
returns-then-field-own c =
    let a = c.args in
    rw (eq-eqb a.field a.own c.if-field-own.true)
    (said₂ (ranged a.own) a.least a.greatest c.ranged.ensures c.ranges.least.sfits
    c.ranges.greatest.sfits)

pub returns : goal.returns
returns c = let a = c.args in rw (ne_eqb a.field a.own c.if-field-own.false)
