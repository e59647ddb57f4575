-- `roof_zones`: a refused building has none; one in order has what each question answers.
use mathlib.Core.Path.{sym, ap, ◌∙◌}
use Rattle.whole.proofs.Size.{said₂}
use Rattle.building.specs.declared.Sizes.{Sizes}
use Rattle.building.specs.Places.{E}
use Rattle.building.proofs.Judged.{sized-by, sized-order}
use Rattle.book.specs.Zones.{roof_half}
use Rattle.book.proofs.FourZones.{roof-asked, none-asked}
use Rattle.book.proofs.roof_zones.Goals as goal

pub roof_half-requires : goal.roof_half-requires
roof_half-requires c =
    let d = c.args.d in sized-order d.year d.building (sym c.sized.ensures ∙ c.in-Ok.is)

pub returns-in-Ok : goal.returns-in-Ok
returns-in-Ok c =
    let a = c.args in
    let g = sized-by a.d.year a.d.building (sym c.sized.ensures ∙ c.in-Ok.is) in
    said₂ (roof_half c.in-Ok.s) a.d.building.kind a.direction c.roof_half.ensures
    c.struct_told-1.given.1.0.1.1.1.1.1.1.0.1 c.ranges.direction.sfits
    ∙ ap (λ (z : Sizes). roof_half z a.d.building.kind a.direction) g.1
    ∙ roof-asked a.d.year a.d.building a.direction g.0

pub returns-in-Err : goal.returns-in-Err
returns-in-Err c =
    let a = c.args in
    c.no_zones.ensures
    ∙ none-asked a.d.year a.d.building a.direction c.in-Err.field-0 E
    (sym c.sized.ensures ∙ c.in-Err.is)
