-- `zones::roof`: a flat roof, or slopes.
use mathlib.Core.Path.{sym, ◌∙◌}
use Rattle.book.proofs.zones.roof.Goals as goal

pub flat-requires : goal.flat-requires
flat-requires c = record {
  sizes_in_order = c.requires.sizes_in_order;
  kind_nonzero =
      (c.requires.kind_nonzero, sym c.two_signs.ensures ∙ c.if-two_signs.true, c.roof_way-w.ensures);
}

pub returns-then-two_signs : goal.returns-then-two_signs
returns-then-two_signs c =
    let a = c.args in
    rw (sym c.two_signs.ensures ∙ c.if-two_signs.true) (c.flat.ensures a.wind)

pub slopes-requires : goal.slopes-requires
slopes-requires c = record {
  sizes_in_order = c.requires.sizes_in_order;
  kind_nonzero =
      (c.requires.kind_nonzero, sym c.two_signs.ensures ∙ c.if-two_signs.false, c.roof_way-w.ensures);
}

pub returns : goal.returns
returns c =
    rw (sym c.two_signs.ensures ∙ c.if-two_signs.false) c.slopes.ensures
