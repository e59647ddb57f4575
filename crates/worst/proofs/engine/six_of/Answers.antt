-- `engine::six_of` meets its contract: in the longer lists there is room for every face.
use mathlib.Core.Path.{refl}
use native.Mathlib.Omega.{arith}
use Rattle.worst.proofs.engine.six_of.Goals as goal

pub own_six-requires : goal.own_six-requires
own_six-requires c =
    let few = c.requires.0.few in (
      record { numbered = c.requires.0; room = omega arith },
      refl,
      c.requires.1,
    )

pub returns : goal.returns
returns c = c.own_six.ensures
