-- `roofs::roof_way`: the walk is over the roof's part.
use mathlib.Core.Path.{ap, ◌∙◌}
use mathlib.Core.List.{List}
use Rattle.book.specs.Row.{Standing}
use Rattle.book.specs.Line.{way_in}
use Rattle.book.specs.Spot.{spot_of}
use Rattle.book.specs.Roofs.{roof_way}
use Rattle.book.proofs.roofs.roof_way.Goals as goal

pub way_in-requires : goal.way_in-requires
way_in-requires c = (c.part_of.ensures.0, c.requires.sizes_in_order.ranged.across-most)

pub returns : goal.returns
unfolding roof_way
returns c =
    let s = c.args.s in
    c.way_in.ensures
    ∙ ap (λ (rows : List Standing). spot_of (way_in rows s.along s.across)) c.part_of.ensures.1
