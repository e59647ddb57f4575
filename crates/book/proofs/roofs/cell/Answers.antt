-- `roofs::cell`: the table is the kind's.
use mathlib.Core.Path.{◌∙◌}
use native.Mathlib.Omega.{arith}
use borrow.Author.Tests.{eq-eqb, ne_eqb}
use mir.Syntax.{w16}
use Rattle.whole.proofs.Size.{returned}
use Rattle.book.proofs.roofs.cell.Goals as goal

pub gable_cell-requires : goal.gable_cell-requires
gable_cell-requires c =
    let k = c.if-kind-eq1.true in
    let one = eq-eqb c.args.kind 1 k in
    let six = ne_eqb c.args.kind 6 (λ e. omega arith) in
    (c.requires.0, rw one at c.requires.1, rw six at c.requires.2)

pub returns-then-kind-eq1 : goal.returns-then-kind-eq1
returns-then-kind-eq1 c =
    rw (eq-eqb c.args.kind 1 c.if-kind-eq1.true)
    ((returned w16 c.gable_cell.result c.gable_cell.type_inv).same ∙ c.gable_cell.ensures)

pub single_cell-requires : goal.single_cell-requires
single_cell-requires c =
    let one = ne_eqb c.args.kind 1 c.if-kind-eq1.false in
    let six = eq-eqb c.args.kind 6 c.if-kind-eq6.true in
    (c.requires.0, rw (one, six) at c.requires.1, rw six at c.requires.2)

pub returns-then-kind-eq6 : goal.returns-then-kind-eq6
returns-then-kind-eq6 c =
    let kind = c.args.kind in
    rw (ne_eqb kind 1 c.if-kind-eq1.false, eq-eqb kind 6 c.if-kind-eq6.true)
    ((returned w16 c.single_cell.result c.single_cell.type_inv).same ∙ c.single_cell.ensures)

pub flat_cell-requires : goal.flat_cell-requires
flat_cell-requires c =
    let one = ne_eqb c.args.kind 1 c.if-kind-eq1.false in
    let six = ne_eqb c.args.kind 6 c.if-kind-eq6.false in
    (c.requires.0, rw (one, six) at c.requires.1, rw six at c.requires.2)

pub returns : goal.returns
returns c =
    let kind = c.args.kind in
    rw (ne_eqb kind 1 c.if-kind-eq1.false, ne_eqb kind 6 c.if-kind-eq6.false)
    ((returned w16 c.flat_cell.result c.flat_cell.type_inv).same ∙ c.flat_cell.ensures)
