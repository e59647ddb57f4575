-- `parts::none`: it is computed.
use mathlib.Core.Path.{refl}
use Rattle.whole.specs.Lists.{numbers}
use Rattle.worksheet.proofs.parts.none.Goals as goal

pub returns : goal.returns
unfolding numbers
returns c = refl
