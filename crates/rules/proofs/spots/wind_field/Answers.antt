-- `spots::wind_field`: the fields in their order.
use mathlib.Core.Path.{refl}
use Rattle.building.specs.Fault.{spot_of}
use Rattle.rules.proofs.Spotted.{at-or}
use Rattle.rules.proofs.spots.wind_field.Goals as goal

pub returns : goal.returns
unfolding spot_of
returns c g w =
    let n = c.args.field in
    at-or n 1 refl (at-or n 2 refl c.ranged-none.ensures c.at.ensures) c.at-2.ensures
