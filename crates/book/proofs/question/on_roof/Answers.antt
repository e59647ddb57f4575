-- `question::on_roof`: the definition's two cases of a roof.
use mathlib.Core.Path.{◌≡◌, sym, ap, ap₂, ◌∙◌, subst}
use Prim.Native.Nat.{ℕ, ◌≤◌, ◌<◌}
use lib.IntN.{ℤ, neg_ℤ, nat_abs}
use mir.Syntax.{w32}
use mir.Val.{to_z, of_z}
use Rattle.whole.proofs.Size.{returned}
use Rattle.book.specs.declared.line.Spot.{Spot}
use Rattle.book.specs.declared.Values.TheVariants.{One, Two}
use Rattle.book.specs.Line.{value_at}
use Rattle.book.specs.Spot.{cites_at}
use Rattle.book.specs.Roofs.{width, roof_way}
use Rattle.book.specs.Question.{roof_column}
use Rattle.book.proofs.Roofed.{roof_value-small}
use Rattle.book.proofs.Columns.{roof_column-below}
use Rattle.book.proofs.Answers.{on-f, on_one}
use Rattle.book.proofs.question.on_roof.Goals.{After-roof_value-v, Start}
use Rattle.book.proofs.question.on_roof.Goals as goal

abbrev column : Start → ℕ
column s = roof_column s.args.s.kind s.args.wind s.args.place

-- the value of the column, as it is handed on
value : (c : After-roof_value-v) → to_z w32 (of_z w32 c.roof_value-v.result) ≡ value_at (roof_way c.args.s) (column
    (goal.at.After-roof_value-v c).Start)
value c =
    let a = c.args in
    (returned w32 c.roof_value-v.result c.roof_value-v.type_inv).same
    ∙ c.roof_value-v.ensures
    ∙ ap (value_at (roof_way a.s)) c.roof_column.ensures

pub roof_value-v-requires : goal.roof_value-v-requires
roof_value-v-requires c =
    let a = c.args in
    let below = roof_column-below a.s.kind a.wind a.place in record {
      sizes_in_order = c.requires.sizes_in_order;
      kind_nonzero = (
        c.requires.kind_nonzero.0,
        c.roof_way-w.ensures,
        subst (λ (n : ℕ). n < width a.s.kind) (sym c.roof_column.ensures) below,
      );
    }

pub both_signs-requires : goal.both_signs-requires
both_signs-requires c =
    let at_start = (goal.at.both_signs-requires c).Start in
    subst (λ (z : ℤ). nat_abs z ≤ 2500) (sym (value (goal.at.both_signs-requires c).After-roof_value-v))
    (roof_value-small c.args.s c.requires.sizes_in_order c.requires.kind_nonzero.0 (column at_start))

pub returns-then-two_signs : goal.returns-then-two_signs
returns-then-two_signs c =
    let a = c.args in
    let signs = ap (λ (z : ℤ). Two z (neg_ℤ z)) (value (goal.at.returns-then-two_signs c).After-roof_value-v) in
    c.cited.ensures
    ∙ ap₂ cites_at (c.both_signs.ensures ∙ signs) c.roof_way-w.ensures
    ∙ sym (on-f a.s a.wind a.place c.requires.kind_nonzero.1 (sym c.two_signs.ensures ∙ c.if-two_signs.true))

pub returns : goal.returns
returns c =
    let at_roof_value_v = (goal.at.returns c).After-roof_value-v in
    let a = c.args in
    c.cited-2.ensures
    ∙ ap₂ (λ (z : ℤ) (q : Spot). cites_at (One z) q) (value at_roof_value_v) c.roof_way-w.ensures
    ∙ sym (on_one a.s a.wind a.place c.requires.kind_nonzero.1 (sym c.two_signs.ensures ∙ c.if-two_signs.false))
