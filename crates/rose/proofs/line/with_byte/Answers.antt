-- `with_byte` meets its contract.
use mathlib.Core.Path.{ap, ◌∙◌}
use Rattle.rose.specs.Pending.{directed}
use borrow.Author.Tests.{eq-eqb, ne_eqb}
use Rattle.rose.proofs.line.with_byte.Goals as goal

pub returns-then-b-ne32 : goal.returns-then-b-ne32
returns-then-b-ne32 c = rw (ne_eqb _ _ c.if-b-ne32.true, c.with_byte.ensures)

pub returns-then-p-eq0 : goal.returns-then-p-eq0
returns-then-p-eq0 c =
    rw (eq-eqb _ _ c.if-b-ne32.false, eq-eqb _ _ c.if-p-eq0.true)
    (c.directed_by.ensures ∙ ap directed c.says.ensures)

pub returns : goal.returns
returns c = rw (eq-eqb _ _ c.if-b-ne32.false, ne_eqb _ _ c.if-p-eq0.false)
