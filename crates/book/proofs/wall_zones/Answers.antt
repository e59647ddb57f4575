-- `wall_zones`: a refused building has none; one in order has what each question answers.
use mathlib.Core.Path.{sym, ap, ◌∙◌}
use Rattle.whole.proofs.Size.{said}
use Rattle.building.specs.declared.Sizes.{Sizes}
use Rattle.building.specs.Places.{A}
use Rattle.building.proofs.Judged.{sized-by, sized-order}
use Rattle.book.specs.Zones.{wall_half}
use Rattle.book.proofs.FourZones.{walls-asked, none-asked}
use Rattle.book.proofs.wall_zones.Goals as goal

pub wall_half-requires : goal.wall_half-requires
wall_half-requires c =
    let d = c.args.d in sized-order d.year d.building (sym c.sized.ensures ∙ c.in-Ok.is)

pub returns-in-Ok : goal.returns-in-Ok
returns-in-Ok c =
    let a = c.args in
    let g = sized-by a.d.year a.d.building (sym c.sized.ensures ∙ c.in-Ok.is) in
    said (wall_half c.in-Ok.s) a.direction c.wall_half.ensures c.ranges.direction.sfits
    ∙ ap (λ (z : Sizes). wall_half z a.direction) g.1
    ∙ walls-asked a.d.year a.d.building a.direction g.0

pub returns-in-Err : goal.returns-in-Err
returns-in-Err c =
    let a = c.args in
    c.no_zones.ensures
    ∙ none-asked a.d.year a.d.building a.direction c.in-Err.field-0 A
    (sym c.sized.ensures ∙ c.in-Err.is)
