-- `zones::slopes`: two columns hold the four zones.
use mathlib.Core.Path.{◌≡◌, sym, ap, ◌∙◌, subst}
use Prim.Native.Nat.{ℕ, ◌<◌}
use mir.Syntax.{w32}
use Rattle.whole.proofs.Size.{returned}
use Rattle.building.specs.Places.{E, H}
use Rattle.book.specs.Line.{value_at}
use Rattle.book.specs.Roofs.{width, roof_way}
use Rattle.book.specs.Zones.{both_ends}
use Rattle.book.proofs.Columns.{roof_column-below}
use Rattle.book.proofs.FourZones.{valued, by-flanks, by-halves}
use Rattle.book.proofs.zones.slopes.Goals.{After-alone-h, Start}
use Rattle.book.proofs.zones.slopes.Goals as goal

-- the two columns, each with its value
module _ (c : After-alone-h) where
  abbrev start : Start
  start = (goal.at.After-alone-h c).Start

  first : c.alone-e.result
      ≡ valued start.args.s start.requires.sizes_in_order start.requires.kind_nonzero.0 start.requires.kind_nonzero.1
      start.args.wind E
  first =
      let c = c in
      c.alone-e.ensures
      ∙ ap both_ends
      ((returned w32 c.roof_value.result c.roof_value.type_inv).same
      ∙ c.roof_value.ensures
      ∙ ap (value_at (roof_way start.args.s)) c.roof_column.ensures)

  last : c.alone-h.result
      ≡ valued start.args.s start.requires.sizes_in_order start.requires.kind_nonzero.0 start.requires.kind_nonzero.1
      start.args.wind H
  last =
      c.alone-h.ensures
      ∙ ap both_ends
      ((returned w32 c.roof_value-2.result c.roof_value-2.type_inv).same
      ∙ c.roof_value-2.ensures
      ∙ ap (value_at (roof_way start.args.s)) c.roof_column-2.ensures)

pub roof_value-requires : goal.roof_value-requires
roof_value-requires c =
    let kind = c.args.s.kind in record {
      sizes_in_order = c.requires.sizes_in_order;
      kind_nonzero = (
        c.requires.kind_nonzero.0,
        c.requires.kind_nonzero.2,
        subst (λ (n : ℕ). n < width kind) (sym c.roof_column.ensures) (roof_column-below kind c.args.wind E),
      );
    }

pub roof_value-requires-2 : goal.roof_value-requires-2
roof_value-requires-2 c =
    let kind = c.args.s.kind in record {
      sizes_in_order = c.requires.sizes_in_order;
      kind_nonzero = (
        c.requires.kind_nonzero.0,
        c.requires.kind_nonzero.2,
        subst (λ (n : ℕ). n < width kind) (sym c.roof_column-2.ensures) (roof_column-below kind c.args.wind H),
      );
    }

pub returns-then-by_flanks : goal.returns-then-by_flanks
returns-then-by_flanks c =
    let at_alone_h = (goal.at.returns-then-by_flanks c).After-alone-h in
    let e = first at_alone_h in
    let h = last at_alone_h in
    (λ j. record { first = e j; second = h j; third = e j; fourth = h j })
    ∙ by-flanks c.args.s c.requires.sizes_in_order c.requires.kind_nonzero.0 c.requires.kind_nonzero.1 c.args.wind
    (sym c.by_flanks.ensures ∙ c.if-by_flanks.true)

pub returns : goal.returns
returns c =
    let at_alone_h = (goal.at.returns c).After-alone-h in
    let e = first at_alone_h in
    let h = last at_alone_h in
    (λ j. record { first = e j; second = e j; third = h j; fourth = h j })
    ∙ by-halves c.args.s c.requires.sizes_in_order c.requires.kind_nonzero.0 c.requires.kind_nonzero.1 c.args.wind
    (sym c.by_flanks.ensures ∙ c.if-by_flanks.false)
